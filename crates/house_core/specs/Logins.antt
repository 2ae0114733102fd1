-- What a login becomes.
use Rattle.std.specs.Prelude.{◌≡◌, ℕ, length}
use Rattle.house_model.specs.declared.reply.Reply.{Reply}
use Rattle.house_model.specs.Effects.{apply_all}
use Rattle.house_model.specs.Gate.{Verdict}
use Rattle.house_model.specs.Traffic.{brief}
use Rattle.house_world.specs.Keeping.{Keeps}
use Rattle.house_world.specs.declared.world.World.{World}
use Rattle.house_world.specs.Wholes.{AreUsers, IsFew, IsTied}
use Rattle.house_world.specs.Worlds.{seen}

-- a verdict, as it was carried out in a world of so many users
pub record Enters (v : Verdict) (many : ℕ) (reply : Reply) (old new : World) : Type 0 where
  pub answer : reply ≡ v.reply
  pub world : seen new ≡ apply_all brief (seen old) v.effects
  pub tied : IsTied new.table
  pub known : AreUsers many old.table → AreUsers many new.table
  pub few : (turns : ℕ) → IsFew turns old.table → IsFew turns new.table
  pub lines : length new.table.lines ≡ length old.table.lines
  pub answered : length new.answers.items ≡ length old.answers.items
  pub kept : Keeps old.book new.book
