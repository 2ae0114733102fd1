use Rattle.house_model.proofs.TurnLaws.{always_sound}
use Rattle.house_model.proofs.EventFits.{always_back, always_fits}
use Rattle.house_model.proofs.laws.always_sound.Goals as goal

pub returns-clause-sound : goal.returns-clause-sound
returns-clause-sound c = always_sound

pub returns-clause-back : goal.returns-clause-back
returns-clause-back c = always_back

pub returns-clause-fits : goal.returns-clause-fits
returns-clause-fits c = always_fits
