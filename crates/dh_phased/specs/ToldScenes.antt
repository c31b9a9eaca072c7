-- What a ready program tells of the scene of its plan.
use Rattle.dh_tree.specs.Ready.{IsReady}
use Rattle.dh_tree.specs.Seen.{program_seen}
use Rattle.dh_expressions.specs.declared.scenes.Scene.{Scene}
use Rattle.dh_expressions.specs.Copying.{HasScopes}
use Rattle.dh_gathering.specs.MadeBlocks.{IsTold}

-- its stores are into accesses
abbrev pub ReadyScenesAreTold : Type 0
ReadyScenesAreTold = (scene : Scene) → IsReady (program_seen scene.program.now) → HasScopes scene → IsTold scene
