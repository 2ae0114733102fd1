use Rattle.house_model.proofs.Cores.{alone_core}
use Rattle.house_model.specs.Histories.{after}
use Rattle.house_model.proofs.TurnLaws.{always_sound}
use Rattle.house_model.proofs.Hearing.{frame_is}
use Rattle.house_model.proofs.LineLaws.{lines_are, lines_apart, shares_are, asks_are, acted_are}
use Rattle.house_model.proofs.AccountLaws.{account_is}
use Rattle.house_model.proofs.laws.lines_are_the_history.Goals as goal

pub returns-clause-session : goal.returns-clause-session
returns-clause-session c = alone_core

pub returns-clause-connections : goal.returns-clause-connections
returns-clause-connections c = lines_are

pub returns-clause-distinct : goal.returns-clause-distinct
returns-clause-distinct c = lines_apart

pub returns-clause-shares : goal.returns-clause-shares
returns-clause-shares c = shares_are

pub returns-clause-frames : goal.returns-clause-frames
returns-clause-frames at o h w t c s e starts = frame_is (after o h) w t c s e (always_sound o h starts)

pub returns-clause-asks : goal.returns-clause-asks
returns-clause-asks c = asks_are

pub returns-clause-acted : goal.returns-clause-acted
returns-clause-acted c = acted_are

pub returns-clause-account : goal.returns-clause-account
returns-clause-account c = account_is
