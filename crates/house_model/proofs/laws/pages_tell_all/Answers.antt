use Rattle.house_model.proofs.PageWalks.{pages_tell_all}
use Rattle.house_model.proofs.laws.pages_tell_all.Goals as goal

pub returns : goal.returns
returns c = pages_tell_all
