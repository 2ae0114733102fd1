-- From what an account says of whole connections to what it says of each operation at its turn.
use Rattle.std.proofs.Common.{◌≡◌, ℕ, ◌+◌, List, [], ◌∷◌, ◌++◌, length, Option, Some, None, Bool, true}
use Rattle.std.proofs.Common.{false, refl, sym, ap, ◌∙◌, subst, append_assoc, append-nil}
use Rattle.std.specs.Prelude.{slice_get}
use Rattle.stanza_tree.specs.declared.frame.Entry.{Entry}
use Rattle.sm_account.specs.Sessions as one
use Rattle.sm_account.specs.Sessions.{Hold, Held, Away, Core, Op}
use Rattle.sm_account.specs.Connections as past
use Rattle.sm_account.specs.Connections.{Connection, Trace, Session, connections, trace_if, step_if, step, run}
use Rattle.sm_account.specs.Accounts.{Account, ResumesIf, OperationFits, AllOperationsFit, ConnectionFits, AllConnectionsFit}
use Rattle.sm_account.proofs.Lists.{get_after}
use Rattle.sm_account.proofs.Follows.{IsNext, GoesOnIf, Meets, Follows}

-- the connections of u are those of t, the present one with more on it, and newer ones
pub record Extends {S : Type 0} (t u : Trace S) : Type 0 where
  pub newer : List (Connection S)
  pub same : Connection S
  pub more_carried : List Entry
  pub more_arrived : List S
  pub all : connections u ≡ newer ++ (same ∷ t.earlier)
  pub carried : same.carried ≡ t.present.carried ++ more_carried
  pub arrived : same.arrived ≡ t.present.arrived ++ more_arrived

itself : {S : Type 0} (t : Trace S) → Extends t t
itself t = record {
  newer = [];
  same = t.present;
  more_carried = [];
  more_arrived = [];
  all = refl;
  carried = sym (append-nil _);
  arrived = sym (append-nil _);
}

module _ {S : Type 0} (t u : Trace S) where
  -- more on the present connection, and then the rest
  longer : (t' : Trace S) (xs : List Entry) (ys : List S) → t'.earlier ≡ t.earlier
      → t'.present.carried ≡ t.present.carried ++ xs
      → t'.present.arrived ≡ t.present.arrived ++ ys → Extends t' u → Extends t u
  longer t' xs ys e f g x = record {
    newer = x.newer;
    same = x.same;
    more_carried = xs ++ x.more_carried;
    more_arrived = ys ++ x.more_arrived;
    all = x.all ∙ ap (λ (l : List (Connection S)). x.newer ++ (x.same ∷ l)) e;
    carried =
        x.carried ∙ (ap (λ (l : List Entry). l ++ x.more_carried) f ∙ append_assoc t.present.carried xs x.more_carried);
    arrived =
        x.arrived ∙ (ap (λ (l : List S). l ++ x.more_arrived) g ∙ append_assoc t.present.arrived ys x.more_arrived);
  }

  alike : (t' : Trace S) → t'.earlier ≡ t.earlier → t'.present.carried ≡ t.present.carried
      → t'.present.arrived ≡ t.present.arrived
      → Extends t' u → Extends t u
  alike t' e f g x = longer t' [] [] e (f ∙ sym (append-nil _)) (g ∙ sym (append-nil _)) x

  -- a new connection, and then the rest
  opened : (t' : Trace S) → t'.earlier ≡ t.present ∷ t.earlier → Extends t' u → Extends t u
  opened t' e x = record {
    newer = x.newer ++ x.same ∷ [];
    same = t.present;
    more_carried = [];
    more_arrived = [];
    all =
        x.all
        ∙ (ap (λ (l : List (Connection S)). x.newer ++ (x.same ∷ l)) e
        ∙ sym (append_assoc x.newer (x.same ∷ []) (t.present ∷ t.earlier)));
    carried = sym (append-nil _);
    arrived = sym (append-nil _);
  }

  carries : (o : Option Entry) → Extends (past.carries t o) u → Extends t u
  carries None x = x
  carries (Some e) x = longer (past.carries t (Some e)) (e ∷ []) [] refl refl (sym (append-nil _)) x

  opens : (c : ℕ) (o : Option ℕ) → Extends (past.opens t c o) u → Extends t u
  opens c None x = x
  opens c (Some n) x = opened (past.opens t c (Some n)) refl x

step_extends : {S : Type 0} (b : Bool) (m : Hold) (op : Op S) (s : Session S) (u : Trace S)
    → Extends (trace_if b m s.core s.trace op) u → Extends s.trace u
step_extends false Away (one.Begin c) s u x = alike s.trace u _ refl refl refl x
step_extends true (Held d) one.Pull s u x = carries s.trace u (one.next_entry s.core) x
step_extends true (Held d) one.Ask s u x = alike s.trace u _ refl refl refl x
step_extends true (Held d) (one.Act y) s u x = longer s.trace u _ [] (y ∷ []) refl (sym (append-nil _)) refl x
step_extends true (Held d) (one.Short y) s u x = longer s.trace u _ [] (y ∷ []) refl (sym (append-nil _)) refl x
step_extends true (Held d) (one.Resume c h) s u x = opens s.trace u c (one.named s.core h) x
step_extends true Away (one.Resume c h) s u x = opens s.trace u c (one.named s.core h) x
step_extends true m op s u x = x
step_extends false m op s u x = x

pub extends : {S : Type 0} (s : Session S) (ops : List (Op S)) → Extends s.trace (run s ops).trace
extends s [] = itself s.trace
extends s (op ∷ ops) = step_extends s.core.counts s.core.hold op s (run (step s op) ops).trace (extends (step s op) ops)

-- one of the connections
fit_at : {S : Type 0} (a : Account S) (newer : List (Connection S)) (c : Connection S) (cs : List (Connection S))
    → AllConnectionsFit a (newer ++ (c ∷ cs)) → ConnectionFits a (length cs) c
fit_at a [] c cs all = all.0
fit_at a (n ∷ newer) c cs all = fit_at a newer c cs all.1

-- the connection before the present one
fits_before : {S : Type 0} (a : Account S) (t : Trace S) (c : Connection S) (s : Session S) (ops : List (Op S))
    → s.trace.earlier ≡ c ∷ t.earlier
    → AllConnectionsFit a (connections (run s ops).trace) → ConnectionFits a (length t.earlier) c
fits_before {S = S} a t c s ops is all =
    let x = extends s ops in
    let split : connections (run s ops).trace ≡ (x.newer ++ x.same ∷ []) ++ (c ∷ t.earlier) =
    x.all
    ∙ (ap (λ (cs : List (Connection S)). x.newer ++ (x.same ∷ cs)) is
    ∙ sym (append_assoc x.newer (x.same ∷ []) (c ∷ t.earlier))) in
    fit_at a (x.newer ++ x.same ∷ []) c t.earlier (subst (AllConnectionsFit a) split all)

arrives_next : {S : Type 0} (a : Account S) (i : ℕ) (before more : List S) (x : S) (c : Connection S)
    → ConnectionFits a i c
    → c.arrived ≡ (before ++ x ∷ []) ++ more
    → slice_get a.stanzas (a.begins i + length before) ≡ Some x
arrives_next {S = S} a i before more x c f is =
    get_after before (more ++ f.in_order.0) a.stanzas x (a.begins i)
    (sym (ap (λ (l : List S). l ++ f.in_order.0) is
    ∙ (append_assoc (before ++ x ∷ []) more f.in_order.0
    ∙ append_assoc before (x ∷ []) (more ++ f.in_order.0)))
    ∙ f.in_order.1)

arrival_is_next : {S : Type 0} (a : Account S) (s s' : Session S) (x : S) (ops : List (Op S))
    → s'.trace.earlier ≡ s.trace.earlier
    → s'.trace.present.arrived ≡ s.trace.present.arrived ++ x ∷ [] → s.trace.present.short ≡ false
    → AllConnectionsFit a (connections (run s' ops).trace) → IsNext a s x
arrival_is_next {S = S} a s s' x ops alike is whole all =
    let y = extends s' ops in
    let fit = fit_at a y.newer y.same s'.trace.earlier (subst (AllConnectionsFit a) y.all all) in
    record {
      next = arrives_next a (length s.trace.earlier) s.trace.present.arrived y.more_arrived x y.same
          (subst (λ (cs : List (Connection S)). ConnectionFits a (length cs) y.same) alike fit)
          (y.arrived ∙ ap (λ (l : List S). l ++ y.more_arrived) is);
      whole = whole;
    }

resume_meets : {S : Type 0} (a : Account S) (s : Session S) (said c h v : ℕ) (k : Core S) (ops : List (Op S))
    (o : Option ℕ)
    → ResumesIf a s said h v o
    → AllConnectionsFit a (connections (run (record { core = k; trace = past.opens s.trace c o }) ops).trace)
    → GoesOnIf a s said h v o
resume_meets a s said c h v k ops None e all = e
resume_meets {S = S} a s said c h v k ops (Some n) (r, e) all =
    let t : Session S = record { core = k; trace = past.opens s.trace c (Some n) } in
    let before = fits_before a s.trace s.trace.present t ops refl all in
    (before.within, r, e)

meets : {S : Type 0} (b : Bool) (m : Hold) (op : Op S) (a : Account S) (s : Session S) (said v : ℕ) (ops : List (Op S))
    → OperationFits b m a s said op v
    → AllConnectionsFit a (connections (run (step_if b m s op) ops).trace) → Meets b m a s said op v
meets true (Held d) (one.Ack h) a s said v ops e all = e
meets true (Held d) (one.Act x) a s said v ops (e, whole) all =
    (e, arrival_is_next a s (step_if true (Held d) s (one.Act x)) x ops refl refl whole all)
meets true (Held d) (one.Short x) a s said v ops (e, whole) all =
    (e, arrival_is_next a s (step_if true (Held d) s (one.Short x)) x ops refl refl whole all)
meets true (Held d) (one.Resume c h) a s said v ops e all = resume_meets a s said c h v _ ops (one.named s.core h) e all
meets true Away (one.Resume c h) a s said v ops e all = resume_meets a s said c h v _ ops (one.named s.core h) e all
meets true m op a s said v ops e all = e
meets false m op a s said v ops e all = e

pub follows : {S : Type 0} (a : Account S) (s : Session S) (said : ℕ) (ops : List (Op S))
    → AllOperationsFit a s said ops
    → AllConnectionsFit a (connections (run s ops).trace) → Follows a s said ops
follows a s said [] e all = all.0.within
follows a s said (op ∷ ops) (v, e, rest) all =
    (v, meets s.core.counts s.core.hold op a s said v ops e all, follows a (step s op) v ops rest all)
