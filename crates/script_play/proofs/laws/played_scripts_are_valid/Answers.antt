use Rattle.script_play.proofs.Valid.{done_is_valid, refused_is_invalid}
use Rattle.script_play.proofs.laws.played_scripts_are_valid.Goals as goal

pub returns-clause-done : goal.returns-clause-done
returns-clause-done c = done_is_valid

pub returns-clause-refused : goal.returns-clause-refused
returns-clause-refused c = refused_is_invalid
