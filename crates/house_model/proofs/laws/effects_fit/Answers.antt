use Rattle.house_model.proofs.HouseFits.{departure_fits, stanza_fits}
use Rattle.house_model.proofs.HouseRooms.{departure_is_of, stanza_is_of, stanza_suits_them}
use Rattle.house_model.proofs.KeptRows.{few, keeps, quiet}
use Rattle.house_model.proofs.laws.effects_fit.Goals as goal

pub returns-clause-stanza : goal.returns-clause-stanza
returns-clause-stanza c = stanza_fits

pub returns-clause-departure : goal.returns-clause-departure
returns-clause-departure c = departure_fits

pub returns-clause-rooms : goal.returns-clause-rooms
returns-clause-rooms c = stanza_is_of

pub returns-clause-left : goal.returns-clause-left
returns-clause-left c = departure_is_of

pub returns-clause-suit : goal.returns-clause-suit
returns-clause-suit c = stanza_suits_them

pub returns-clause-keeps : goal.returns-clause-keeps
returns-clause-keeps c = keeps

pub returns-clause-few : goal.returns-clause-few
returns-clause-few c = few

pub returns-clause-quiet : goal.returns-clause-quiet
returns-clause-quiet c = quiet
