pub mod PlansCompiled
pub mod NetsJoined
