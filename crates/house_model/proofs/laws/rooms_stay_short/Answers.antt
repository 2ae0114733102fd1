use Rattle.house_model.proofs.NamesKept.{short_throughout}
use Rattle.house_model.proofs.ShortRooms.{always_short, turn_short}
use Rattle.house_model.proofs.laws.rooms_stay_short.Goals as goal

pub returns-clause-history : goal.returns-clause-history
returns-clause-history c = always_short

pub returns-clause-addresses : goal.returns-clause-addresses
returns-clause-addresses c = short_throughout

pub returns-clause-turn : goal.returns-clause-turn
returns-clause-turn c = turn_short
