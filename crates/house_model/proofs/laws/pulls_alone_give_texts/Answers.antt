use Rattle.house_model.proofs.Texts.{step_no_text}
use Rattle.house_model.proofs.laws.pulls_alone_give_texts.Goals as goal

pub returns : goal.returns
returns c = step_no_text
