-- What a Resume that goes on does: its connection holds the session, which goes on at the client's number, and the one that held it is over.
use Rattle.std.proofs.Common.{◌≡◌, ℕ, ◌+◌, List, [], Some, None, true, sym, ap, ◌∙◌}
use Rattle.sm_resume.specs.declared.id.ResumeId.{ResumeId}
use Rattle.session_table.specs.declared.line.Line.TheVariants.{Logged, Bound}
use Rattle.house_model.specs.declared.event.Event.{Event}
use Rattle.house_model.specs.declared.event.Event.TheVariants as event
use Rattle.house_model.specs.declared.reply.Reply.TheVariants as reply
use Rattle.house_model.specs.Sessions.{Held, Session, session}
use Rattle.house_model.specs.Traffic.{Traffic}
use Rattle.house_model.specs.States.{State, keep}
use Rattle.house_model.specs.Steps.{verdict, turn}
use Rattle.house_model.specs.Histories.{Made, Turn, step, after, IsOpening}
use Rattle.house_model.specs.Resuming.{HoldsFrom}
use Rattle.house_model.specs.Losses.{after_it, before_it}
use Rattle.house_model.specs.Closings.{stage_before}
use Rattle.house_model.proofs.FitLemmas.{IsMatched}
use Rattle.house_model.proofs.EventFits.{always_matched, next_back}
use Rattle.house_model.proofs.Joins.{GoesOn, taken_session, taken_up}
use Rattle.house_model.proofs.ClosingLaws.{closings_are}

pub holds_from : (o : State) (h : List Turn) → IsOpening o → (w c u count t : ℕ) (id : ResumeId) → stage_before (after o h) w ≡ Logged c u
    → (g : GoesOn (after o h) w c u id count
    (verdict (keep (turn (event.Resume w (Some id) count t) (after o h))) (event.Resume w (Some id) count t)))
    → HoldsFrom (after o h) w c id.session ((before_it (after o h) id.session).traffic.base_out + g.n) (step (after o h) (event.Resume w (Some id) count t))
holds_from o h starts w c u count t id logged g = record {
  line = next_back st e (Made reply.Resumed []) m id.session w c hold;
  hold = hold;
  queued = ap (λ (y : Session Traffic). y.traffic.queued) is;
  sent = ap (λ (y : Session Traffic). y.traffic.sent) is;
  deadline = ap (λ (y : Session Traffic). y.rest.deadline) is;
  moved = λ v d held. (closings_are o h starts).tells_moved e id.session v d w c held hold (λ same. other v d held same);
} where
  st : State
  st = after o h

  e : Event
  e = event.Resume w (Some id) count t

  m : IsMatched st.world
  m = always_matched o h starts

  is : after_it st e id.session ≡ session true (Held w c) (taken_up (before_it st id.session).traffic g.n)
      (record (before_it st id.session).rest { deadline = None })
  is = taken_session st w c u id count (verdict (keep (turn e st)) e) g

  hold : (after_it st e id.session).hold ≡ Held w c
  hold = ap (λ (y : Session Traffic). y.hold) is

  other : (v d : ℕ) → (before_it st id.session).hold ≡ Held v d → w ≡ v → ⊥
  other v d held same =
      let both : Logged c u ≡ Bound d id.session = sym logged ∙ (ap (stage_before st) same ∙ m.back id.session v d held) in
      cc
