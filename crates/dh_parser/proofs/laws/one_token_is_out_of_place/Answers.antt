use Rattle.dh_parser.proofs.OnePlace.{one_place, spelled_in_place}
use Rattle.dh_parser.proofs.laws.one_token_is_out_of_place.Goals as goal

pub returns-clause-one : goal.returns-clause-one
returns-clause-one c = one_place

pub returns-clause-spelled : goal.returns-clause-spelled
returns-clause-spelled c = spelled_in_place
