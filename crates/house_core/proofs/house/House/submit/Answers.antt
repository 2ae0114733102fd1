use Rattle.std.proofs.Common.{rules, ◌≡◌, ◌∷◌, ◌++◌, List, [], sym, ap, subst, append-nil, ◌∙◌}
use Rattle.std.specs.Option.{option_copied}
use Rattle.house_model.specs.declared.event.Event.{Event}
use Rattle.house_model.specs.declared.event.Event.TheVariants.{Bind, Resume}
use Rattle.house_model.specs.Histories.{StandsFor, Turn, ended, made}
use Rattle.house_model.specs.States.{Kept, State}
use Rattle.house_core.specs.Houses.{held}
use Rattle.house_core.proofs.house.House.submit.Goals as goal

-- the event, as the call names it
of-event : (turn : Event → Turn) (e f : Event) (k k' : Kept) → e ≡ f
    → ((o : State) (h : List Turn) → StandsFor o h k → StandsFor o (h ++ turn f ∷ []) k')
    → (o : State) (h : List Turn) → StandsFor o h k → StandsFor o (h ++ turn e ∷ []) k'
of-event turn e f k k' is stands =
    subst (λ (x : Event). (o : State) (h : List Turn) → StandsFor o h k → StandsFor o (h ++ turn x ∷ []) k') (sym is) stands

pub returns-in-OpenLine : goal.returns-in-OpenLine
returns-in-OpenLine c = record {
  history = (
    [],
    (
      sym (append-nil c.args.out.now.items),
      of-event (λ e. made e c.open_line.result []) c.args.event.now _ (held c.args.self.now) (held c.open_line.new.self) c.in-OpenLine.is
          c.open_line.ensures.history,
    ),
  );
}

pub returns-in-Login : goal.returns-in-Login
returns-in-Login c = record {
  history = (
    [],
    (
      sym (append-nil c.args.out.now.items),
      of-event (λ e. made e c.login.result []) c.args.event.now _ (held c.args.self.now) (held c.login.new.self) c.in-Login.is c.login.ensures.history,
    ),
  );
}

pub returns-in-Bind : goal.returns-in-Bind
returns-in-Bind c =
    let same : option_copied c.as_ref.result ≡ c.in-Bind.resource = search rules in
    record {
      history = (
        [],
        (
          sym (append-nil c.args.out.now.items),
          of-event (λ e. ended e c.bind.result) c.args.event.now (Bind c.in-Bind.w c.in-Bind.id (option_copied c.as_ref.result) c.in-Bind.t c.in-Bind.dice)
              (held c.args.self.now) (held c.bind.new.self)
              (c.in-Bind.is ∙ ap (λ x. Bind c.in-Bind.w c.in-Bind.id x c.in-Bind.t c.in-Bind.dice) (sym same)) c.bind.ensures.history,
        ),
      );
    }

pub returns-in-Enable : goal.returns-in-Enable
returns-in-Enable c = record {
  history = (
    [],
    (
      sym (append-nil c.args.out.now.items),
      of-event (λ e. made e c.enable.result []) c.args.event.now _ (held c.args.self.now) (held c.enable.new.self) c.in-Enable.is c.enable.ensures.history,
    ),
  );
}

pub returns-in-Resume : goal.returns-in-Resume
returns-in-Resume c =
    let same : option_copied c.as_ref-in-Resume.result ≡ c.in-Resume.id = search rules in
    record {
      history = (
        [],
        (
          sym (append-nil c.args.out.now.items),
          of-event (λ e. made e c.resume.result []) c.args.event.now
              (Resume c.in-Resume.w (option_copied c.as_ref-in-Resume.result) c.in-Resume.h c.in-Resume.t) (held c.args.self.now) (held c.resume.new.self)
              (c.in-Resume.is ∙ ap (λ x. Resume c.in-Resume.w x c.in-Resume.h c.in-Resume.t) (sym same)) c.resume.ensures.history,
        ),
      );
    }

pub returns-in-Act : goal.returns-in-Act
returns-in-Act c = record {
  history = (
    [],
    (
      sym (append-nil c.args.out.now.items),
      of-event (λ e. ended e c.act.result) c.args.event.now _ (held c.args.self.now) (held c.act.new.self) c.in-Act.is c.act.ensures.history,
    ),
  );
}

pub returns-in-Ack : goal.returns-in-Ack
returns-in-Ack c = record {
  history = (
    [],
    (
      sym (append-nil c.args.out.now.items),
      of-event (λ e. made e c.ack.result []) c.args.event.now _ (held c.args.self.now) (held c.ack.new.self) c.in-Ack.is c.ack.ensures.history,
    ),
  );
}

pub returns-in-Ask : goal.returns-in-Ask
returns-in-Ask c = record {
  history = (
    [],
    (
      sym (append-nil c.args.out.now.items),
      of-event (λ e. made e c.ask.result []) c.args.event.now _ (held c.args.self.now) (held c.ask.new.self) c.in-Ask.is c.ask.ensures.history,
    ),
  );
}

pub returns-in-DropLine : goal.returns-in-DropLine
returns-in-DropLine c = record {
  history = (
    [],
    (
      sym (append-nil c.args.out.now.items),
      of-event (λ e. made e c.drop_line.result []) c.args.event.now _ (held c.args.self.now) (held c.drop_line.new.self) c.in-DropLine.is
          c.drop_line.ensures.history,
    ),
  );
}

pub returns-in-CloseLine : goal.returns-in-CloseLine
returns-in-CloseLine c = record {
  history = (
    [],
    (
      sym (append-nil c.args.out.now.items),
      of-event (λ e. made e c.close_line.result []) c.args.event.now _ (held c.args.self.now) (held c.close_line.new.self) c.in-CloseLine.is
          c.close_line.ensures.history,
    ),
  );
}

pub returns-in-Sweep : goal.returns-in-Sweep
returns-in-Sweep c = record {
  history = (
    [],
    (
      sym (append-nil c.args.out.now.items),
      of-event (λ e. ended e c.sweep.result) c.args.event.now _ (held c.args.self.now) (held c.sweep.new.self) c.in-Sweep.is c.sweep.ensures.history,
    ),
  );
}
