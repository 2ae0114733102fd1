-- The spelling of an element with one child more is its own with the child's before the end tag.
use Rattle.std.proofs.Common.{◌≡◌, ◌∙◌, ℕ, ◌+◌, ◌-◌, ◌<◌, List, [], ◌∷◌, ◌++◌, length, take, drop, get_or, Bool, true, false, not, codes, bytes_eq, eqb}
use Rattle.std.proofs.Common.{refl, sym, ap, subst, append-nil, arith}
use Rattle.std.proofs.Math.Seq.{take-append_seam, drop-append_seam}
use Rattle.std.proofs.lemmas.Bool.Decides.{nat_tests}
use Rattle.std.proofs.lemmas.Grind.{common_steps}
use Rattle.std.proofs.lemmas.List.{append_assoc, length-append}
use Rattle.std.proofs.lemmas.Slice.Eq.{bytes_eq-Decides}
use Rattle.std.proofs.lemmas.Str.{IsUtf8-append, IsUtf8-take, IsCharBoundary-before_ascii}
use Rattle.std.specs.Cmp.Lexicographic.{pointwise}
use Rattle.std.specs.Prelude.{IsUtf8}
use Rattle.jid_core.specs.Addresses.{Address}
use Rattle.stanza_tree.specs.Spelling.{Spelled, client_space, closed, element_text, node_text, opened, text, text_under, texts_under}
use Rattle.stanza_tree.specs.Stamps.{sent_by}
use Rattle.stanza_tree.specs.declared.node.Element.{Element}
use Rattle.stanza_tree.specs.declared.node.Node.{Node}
use Rattle.stanza_tree.specs.declared.node.Node.TheFolds.{fold-Node}
use Rattle.stanza_tree.specs.declared.node.Node.TheOpen.{Child}
use Rattle.stanza_tree.specs.declared.node.Node.TheViews.{roll-Node, out-roll-Node}
use Rattle.stanza_tree.proofs.Utf8Lemmas.{ascii-utf8}
use Rattle.stanza_tree.proofs.SpellingLemmas.{text_under-parts, texts-child}
use Rattle.stanza_model.specs.Growing.{before_end, end_tag, grown, is_open}
use Rattle.stanza_model.specs.Ids.{stanza_id, told_with_id, without_ids}
use Rattle.stanza_model.specs.Replies.{one_child}

texts-append : (s : List ℕ) (xs ys : List Node) → texts_under s (xs ++ ys) ≡ texts_under s xs ++ texts_under s ys
texts-append s [] ys = refl
texts-append s (n ∷ ns) ys =
    let here = fold-Node Spelled Spelled node_text element_text n s in
    ap (λ (t : List ℕ). here ++ t) (texts-append s ns ys) ∙ sym (append_assoc here (texts_under s ns) (texts_under s ys))

texts-last : (s : List ℕ) (xs : List Node) (d : Element) → texts_under s (xs ++ one_child d) ≡ texts_under s xs ++ text_under s d
texts-last s xs d =
    texts-append s xs (one_child d)
    ∙ ap (λ (t : List ℕ). texts_under s xs ++ t) (texts-child s (roll-Node (Child d)) [] d (out-roll-Node (Child d)) ∙ append-nil (text_under s d))

at-end : (xs ys : List ℕ) → drop (length (xs ++ ys) - length ys) (xs ++ ys) ≡ ys
at-end xs ys =
    let n : length (xs ++ ys) - length ys ≡ length xs = omega (arith, length-append xs ys) in
    ap (λ (k : ℕ). drop k (xs ++ ys)) n ∙ drop-append_seam xs ys

abbrev has_some : List ℕ → Bool
has_some [] = false
has_some (b ∷ bs) = true

-- a spelling that doesn't end by `/>` is that of an element with content
has-content : (o local c : List ℕ) → is_open (o ++ closed local c) ≡ true → has_some c ≡ true
unfolding closed
has-content o local [] is =
    absurd (let z : false ≡ true = sym (ap (λ (t : List ℕ). not (pointwise eqb (codes "/>") t)) (at-end o (codes "/>"))) ∙ is in cc)
has-content o local (b ∷ bs) is = refl

-- the front of such a spelling
abbrev front : (o c : List ℕ) → List ℕ
front o c = o ++ (codes ">" ++ c)

closed-open : (o local c : List ℕ) → has_some c ≡ true → o ++ closed local c ≡ front o c ++ end_tag local
unfolding closed
closed-open o local [] is = absurd (let z : false ≡ true = is in cc)
closed-open o local (b ∷ bs) is = grind (arith, nat_tests, common_steps)

front-longer : (o c t : List ℕ) → front o (c ++ t) ≡ front o c ++ t
front-longer o c t = ap (λ (l : List ℕ). o ++ l) (sym (append_assoc (codes ">") c t)) ∙ sym (append_assoc o (codes ">" ++ c) t)

end-length : (local : List ℕ) → length (end_tag local) ≡ length local + 3
end-length local = length-append (codes "</" ++ local) (codes ">") ∙ ap (λ (n : ℕ). n + 1) (length-append (codes "</") local) ∙ omega arith

before-end : (p local : List ℕ) → before_end local (p ++ end_tag local) ≡ p
before-end p local =
    let n : length (p ++ end_tag local) - length local - 3 ≡ length p = omega (arith, length-append p (end_tag local), end-length local) in
    ap (λ (k : ℕ). take k (p ++ end_tag local)) n ∙ take-append_seam p (end_tag local)

at-seam : (p ys : List ℕ) → get_or (p ++ ys) (length p) 0 ≡ get_or ys 0 0
at-seam [] ys = refl
at-seam (x ∷ xs) ys = at-seam xs ys

front-utf8 : (p local : List ℕ) → IsUtf8 (p ++ end_tag local) → IsUtf8 p
front-utf8 p local is =
    let within : length p < length (p ++ end_tag local) = omega (arith, length-append p (end_tag local), end-length local) in
    let here : get_or (p ++ end_tag local) (length p) 0 ≡ 60 = at-seam p (end_tag local) in
    subst IsUtf8 (take-append_seam p (end_tag local))
    (IsUtf8-take (p ++ end_tag local) (length p) is (IsCharBoundary-before_ascii (p ++ end_tag local) (length p) within (omega (arith, here))))

longer : (c t : List ℕ) → has_some c ≡ true → has_some (c ++ t) ≡ true
longer [] t is = absurd (let z : false ≡ true = is in cc)
longer (b ∷ bs) t is = refl

-- an element whose spelling doesn't end by `/>`, by its front
parted : (e : Element) → is_open (text e) ≡ true
    → (has_some (texts_under e.name.space e.children) ≡ true)
    × (text e ≡ front (opened client_space e.name e.attrs) (texts_under e.name.space e.children) ++ end_tag e.name.local)
parted e is =
    let o = opened client_space e.name e.attrs in
    let c = texts_under e.name.space e.children in
    let whole : text e ≡ o ++ closed e.name.local c = text_under-parts client_space e in
    let some : has_some c ≡ true = has-content o e.name.local c (sym (ap is_open whole) ∙ is) in
    (some, whole ∙ closed-open o e.name.local c some)

pub before_end-utf8 : (e : Element) → is_open (text e) ≡ true → IsUtf8 (text e) → IsUtf8 (before_end e.name.local (text e))
before_end-utf8 e is u =
    let p = front (opened client_space e.name e.attrs) (texts_under e.name.space e.children) in
    let whole : text e ≡ p ++ end_tag e.name.local = (parted e is).1 in
    subst IsUtf8 (sym (ap (before_end e.name.local) whole ∙ before-end p e.name.local)) (front-utf8 p e.name.local (subst IsUtf8 whole u))

pub text_added : (e d : Element) → bytes_eq e.name.space client_space ≡ true → is_open (text e) ≡ true
    → text (record e { children = e.children ++ one_child d }) ≡ grown e.name.local (text e) (text d)
text_added e d here is =
    let o = opened client_space e.name e.attrs in
    let c = texts_under e.name.space e.children in
    let l = e.name.local in
    let space : e.name.space ≡ client_space = (bytes_eq-Decides e.name.space client_space).0 here in
    let parts = parted e is in
    let content : texts_under e.name.space (e.children ++ one_child d) ≡ c ++ text d =
    texts-last e.name.space e.children d ∙ ap (λ (s : List ℕ). c ++ text_under s d) space in
    let grown : text (record e { children = e.children ++ one_child d }) ≡ o ++ closed l (c ++ text d) =
    text_under-parts client_space (record e { children = e.children ++ one_child d }) ∙ ap (λ (t : List ℕ). o ++ closed l t) content in
    let kept : before_end l (text e) ≡ front o c = ap (before_end l) parts.1 ∙ before-end (front o c) l in
    grown ∙ closed-open o l (c ++ text d) (longer c (text d) parts.0)
    ∙ ap (λ (t : List ℕ). t ++ end_tag l) (front-longer o c (text d) ∙ ap (λ (t : List ℕ). t ++ text d) (sym kept))

pub sent_grown : (from : List ℕ) (owner : Address) (id : ℕ) (e : Element) → bytes_eq e.name.space client_space ≡ true
    → is_open (text (sent_by from (without_ids owner e))) ≡ true
    → grown e.name.local (text (sent_by from (without_ids owner e))) (text (stanza_id owner id)) ≡ text (sent_by from (told_with_id owner id e))
sent_grown from owner id e here is = sym (text_added (sent_by from (without_ids owner e)) (stanza_id owner id) here is)

pub sent_utf8 : (from : List ℕ) (owner : Address) (e : Element) → is_open (text (sent_by from (without_ids owner e))) ≡ true
    → IsUtf8 (text (sent_by from (without_ids owner e))) → IsUtf8 (before_end e.name.local (text (sent_by from (without_ids owner e))))
sent_utf8 from owner e is u = before_end-utf8 (sent_by from (without_ids owner e)) is u

pub grown_utf8 : (local spelt child : List ℕ) → IsUtf8 local → IsUtf8 child → IsUtf8 (before_end local spelt) → IsUtf8 (grown local spelt child)
grown_utf8 local spelt child name inner front =
    IsUtf8-append (before_end local spelt ++ child) (end_tag local) (IsUtf8-append (before_end local spelt) child front inner)
    (IsUtf8-append (codes "</" ++ local) (codes ">") (IsUtf8-append (codes "</") local (ascii-utf8 (codes "</") refl) name) (ascii-utf8 (codes ">") refl))
