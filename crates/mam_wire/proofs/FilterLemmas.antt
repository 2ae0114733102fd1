-- A fault of a field is that of the form.
use Rattle.std.proofs.Common.{◌≡◌, ◌∙◌, List, [], ◌∷◌, ap, refl, subst, sym, Result, Ok, Err}
use Rattle.rsm_paging.specs.declared.ask.Filter.{Filter}
use Rattle.stanza_model.specs.declared.form.Field.{Field}
use Rattle.mam_wire.specs.Faults.{IsCause}
use Rattle.mam_wire.specs.Filters.{asked_named, put_all, put_by}
use Rattle.mam_wire.specs.declared.fault.QueryFault.{QueryFault}
use Rattle.mam_wire.specs.declared.fault.QueryFault.TheVariants.{NoMemory, BadRequest, NotImplemented}

put_all-err : (fields : List Field) (fault : QueryFault) → put_all fields (Err fault) ≡ Err fault
put_all-err [] fault = refl
put_all-err (f ∷ more) fault = refl

of_rest : (more : List Field) (read : Result Filter QueryFault) (fault : QueryFault) → IsCause read fault → IsCause (put_all more read) fault
of_rest more read NoMemory is = tt
of_rest more read BadRequest is = ap (put_all more) is ∙ put_all-err more BadRequest
of_rest more read NotImplemented is = ap (put_all more) is ∙ put_all-err more NotImplemented

pub cause_of_all : (fields more : List Field) (f : Field) (filter : Filter) (fault : QueryFault) → fields ≡ f ∷ more
    → IsCause (put_by (asked_named f.name) f.values filter) fault → (all : Result Filter QueryFault) → put_all fields (Ok filter) ≡ all → IsCause all fault
cause_of_all fields more f filter fault is cause all same =
    subst (λ (r : Result Filter QueryFault). IsCause r fault) (sym (ap (λ (l : List Field). put_all l (Ok filter)) is) ∙ same)
    (of_rest more (put_by (asked_named f.name) f.values filter) fault cause)
