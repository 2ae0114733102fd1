-- How `account` ends.
use Rattle.std.proofs.Common.{◌≡◌, ℕ, List, Some, refl, sym, ap, subst, true≢false, inl, inr, [], ◌∷◌, codes, is_some, ◌∙◌}
use Rattle.std.specs.Prelude.{◌⊎◌, Option}
use Rattle.script_play.specs.declared.status.Status.{Status}
use Rattle.script_play.specs.declared.status.Status.TheVariants as status
use Rattle.commands.specs.Accounts.{Accounted, IsPasswordLine, MakesLine, Refuses}
use Rattle.serve_words.specs.Options.{IsRefusal}
use Rattle.commands.specs.Commands.{task_of}
use Rattle.script_play.specs.Runs.{Front, Replayed}
use Rattle.script_play.proofs.Openings.{first-short}

module _ {K : Type 0} (took : K → Option (List ℕ)) (name salt : List ℕ) (left left_now : Option (List ℕ)) where
  -- no password was read
  pub ends_unread : (sink : K) (s : Status) → Refuses left s → Accounted took name salt left left_now sink sink s
  ends_unread sink (status.Accounts line) r = (r.0, r.1, refl)
  ends_unread sink status.ReadFault r = refl
  ends_unread sink status.NoMemory r = refl
  ends_unread sink status.Done r = absurd r
  ends_unread sink status.WriteFault r = absurd r
  ends_unread sink status.Usage r = absurd r
  ends_unread sink (status.Script line) r = absurd r
  ends_unread sink status.ListenFault r = absurd r

  -- the line was not written to its end
  pub ends_unwritten : (sink sink_now : K) (s : Status) → s ≡ status.WriteFault
      → MakesLine name salt left left_now (λ line. (taken : List ℕ) → took sink ≡ Some taken → Front taken line (took sink_now))
      → Accounted took name salt left left_now sink sink_now s
  ends_unwritten sink sink_now s is made = subst (Accounted took name salt left left_now sink sink_now) (sym is) made

-- a password line, where neither the source nor the sink fails
pub ends_done : {K : Type 0} (took : K → Option (List ℕ)) (name salt password bytes : List ℕ) (left_now : Option (List ℕ)) (sink sink_now : K) (s : Status)
    → IsPasswordLine password bytes → Accounted took name salt (Some bytes) left_now sink sink_now s → (s ≡ status.ReadFault → ⊥) → (s ≡ status.WriteFault → ⊥)
    → (s ≡ status.Done) ⊎ (s ≡ status.NoMemory)
ends_done took name salt password bytes left_now sink sink_now status.Done line a read written = inl refl
ends_done took name salt password bytes left_now sink sink_now status.NoMemory line a read written = inr refl
ends_done took name salt password bytes left_now sink sink_now (status.Accounts n) line a read written = absurd (a.1 bytes refl password line)
ends_done took name salt password bytes left_now sink sink_now status.ReadFault line a read written = absurd (read refl)
ends_done took name salt password bytes left_now sink sink_now status.WriteFault line a read written = absurd (written refl)
ends_done took name salt password bytes left_now sink sink_now status.Usage line a read written = absurd a
ends_done took name salt password bytes left_now sink sink_now (status.Script n) line a read written = absurd a
ends_done took name salt password bytes left_now sink sink_now status.ListenFault line a read written = absurd a

-- the words of `replay`, where none was read
pub replay_unread : (words : List (List ℕ)) (left left_now took : Option (List ℕ)) (s : Status) → IsRefusal (task_of words) s → words ≡ codes "replay" ∷ []
    → Replayed left left_now took took s
replay_unread words left left_now took status.NoMemory refused is = first-short left left_now took
replay_unread words left left_now took status.Usage refused is = absurd (true≢false (ap is_some (sym (ap task_of is)) ∙ ap is_some refused))
replay_unread words left left_now took status.Done refused is = absurd refused
replay_unread words left left_now took (status.Accounts n) refused is = absurd refused
replay_unread words left left_now took (status.Script n) refused is = absurd refused
replay_unread words left left_now took status.ReadFault refused is = absurd refused
replay_unread words left left_now took status.WriteFault refused is = absurd refused
replay_unread words left left_now took status.ListenFault refused is = absurd refused
