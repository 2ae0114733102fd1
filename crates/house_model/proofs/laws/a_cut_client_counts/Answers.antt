use Rattle.house_model.proofs.Stories.{story_starts, story_legal, her_story, story_acted}
use Rattle.house_model.proofs.laws.a_cut_client_counts.Goals as goal

pub returns-clause-starts : goal.returns-clause-starts
returns-clause-starts c = story_starts

pub returns-clause-legal : goal.returns-clause-legal
returns-clause-legal c = story_legal

pub returns-clause-account : goal.returns-clause-account
returns-clause-account c = her_story

pub returns-clause-acted : goal.returns-clause-acted
returns-clause-acted c = story_acted
