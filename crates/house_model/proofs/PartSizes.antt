-- How long a part of an element is, and what is shown of a presence.
use Rattle.std.proofs.Common.{◌≡◌, ◌⊎◌, ℕ, suc, ◌+◌, ◌*◌, ◌≤◌, inl, inr, List, [], ◌∷◌, ◌++◌, length, Option, Some, None, Bool, true, false}
use Rattle.std.proofs.Common.{codes, bytes_eq, refl, ap, subst, arith, length-append, if◌then◌else◌}
use Rattle.std.specs.Prelude.{◌&&◌, nat_lt}
use Rattle.std.specs.List.{filter}
use Rattle.std.proofs.lemmas.Grind.{common_steps}
use Rattle.std.proofs.lemmas.Slice.Eq.{bytes_eq-Decides}
use Rattle.jid_core.specs.Addresses.{address_text}
use Rattle.stanza_tree.specs.Children.{child_of, child_or}
use Rattle.stanza_tree.specs.Spelling.{Spelled, client_space, closed, element_text, named, node_text, text, text_under, texts_under, words_text}
use Rattle.stanza_tree.specs.declared.node.Name.{Name}
use Rattle.stanza_tree.specs.declared.node.Element.{Element}
use Rattle.stanza_tree.specs.declared.node.Node.{Node}
use Rattle.stanza_tree.specs.declared.node.Node.TheFolds.{fold-Node}
use Rattle.stanza_tree.specs.declared.node.Node.TheOpen.{Node-F, Child, Words}
use Rattle.stanza_tree.specs.declared.node.Node.TheViews.{out-Node}
use Rattle.stanza_tree.specs.Stamps.{sent_by}
use Rattle.stanza_tree.proofs.SpellingLemmas.{texts-child, texts-words}
use Rattle.stanza_model.specs.Replies.{one_child}
use Rattle.stanza_model.specs.Stanzas.{stanza_of}
use Rattle.stanza_model.specs.declared.here.Here.{Here}
use Rattle.stanza_model.specs.declared.stanza.Stanza.{Stanza}
use Rattle.presence_core.specs.Copies.{presence_text}
use Rattle.muc_owner.specs.Owning.{as_told, is_long, is_said, is_said_in, told_reason, words_alone}
use Rattle.muc_room.specs.Saying.{is_marked, marked}
use Rattle.muc_room.specs.Views.{is_shown, shown_children, user_space, x_of}
use Rattle.house_model.proofs.ReplySizes.{closed-le, first-length, named-le, under-le, under-parts}
use Rattle.house_model.proofs.SeatLemmas.{two}
use Rattle.house_model.proofs.StayLemmas.{choose}

-- nodes, one after another

node-length : (p : List ℕ) (n : Node) (ns : List Node)
    → length (texts_under p (n ∷ ns)) ≡ length (fold-Node Spelled Spelled node_text element_text n p) + length (texts_under p ns)
node-length p n ns = length-append (fold-Node Spelled Spelled node_text element_text n p) (texts_under p ns)

pub texts-both : (p : List ℕ) (ns ms : List Node) → length (texts_under p (ns ++ ms)) ≡ length (texts_under p ns) + length (texts_under p ms)
texts-both p [] ms = omega arith
texts-both p (n ∷ ns) ms = omega (arith, node-length p n (ns ++ ms), node-length p n ns, texts-both p ns ms)

pub filtered-le : (p : List ℕ) (test : Node → Bool) (ns : List Node) → length (texts_under p (filter test ns)) ≤ length (texts_under p ns)
filtered-le p test [] = omega arith
filtered-le p test (n ∷ ns) =
    choose (λ (l : List Node). length (texts_under p l) ≤ length (texts_under p (n ∷ ns))) (test n) (n ∷ filter test ns) (filter test ns)
    (λ (_ : _). omega (arith, node-length p n ns, node-length p n (filter test ns), filtered-le p test ns))
    (λ (_ : _). omega (arith, node-length p n ns, filtered-le p test ns))

-- what is inside of an element is no longer

pub content-le : (local content : List ℕ) → length content ≤ length (closed local content)
unfolding closed
content-le local content = grind (arith, common_steps)

pub inside-le : (p : List ℕ) (e : Element) → length (texts_under e.name.space e.children) ≤ length (text_under p e)
inside-le p e = omega (arith, under-parts p e, content-le e.name.local (texts_under e.name.space e.children))

picked : (e x : Element) (b : Bool) (later : Option Element) → (if b then Some e else later) ≡ Some x → (e ≡ x) ⊎ (later ≡ Some x)
picked e x true later is = inl (let same : e ≡ x = cc in same)
picked e x false later is = inr is

child-step : (space local p : List ℕ) (n : Node) (ns : List Node) (x : Element) (v : Node-F Node Element) → out-Node n ≡ v
    → (child_of space local ns ≡ Some x → length (text_under p x) ≤ length (texts_under p ns))
    → child_or space local v (child_of space local ns) ≡ Some x → length (text_under p x) ≤ length (texts_under p (n ∷ ns))
child-step space local p n ns x (Words w) at later is = (let few = later is in omega (arith, few, node-length p n ns))
child-step space local p n ns x (Child e) at later is =
    elim (picked e x (bytes_eq e.name.space space && bytes_eq e.name.local local) (child_of space local ns) is) [
      | inl same ↦
          subst (λ (y : Element). length (text_under p y) ≤ length (texts_under p (n ∷ ns))) same
          (omega (arith, ap length (texts-child p n ns e at), length-append (text_under p e) (texts_under p ns)))
      | inr past ↦ (let few = later past in omega (arith, few, node-length p n ns))
    ]

child-le : (space local p : List ℕ) (ns : List Node) (x : Element) → child_of space local ns ≡ Some x
    → length (text_under p x) ≤ length (texts_under p ns)
child-le space local p [] x is = absurd (let z : None ≡ Some x = is in cc)
child-le space local p (n ∷ ns) x is = child-step space local p n ns x (out-Node n) refl (λ past. child-le space local p ns x past) is

-- a child, and what is inside of it
pub child-inside : (p space local : List ℕ) (e x : Element) → child_of space local e.children ≡ Some x
    → length (text_under e.name.space x) ≤ length (text_under p e)
child-inside p space local e x is = (let few = child-le space local e.name.space e.children x is in omega (arith, few, inside-le p e))

-- the namespace of a child is the one that was asked for
space-step : (space local : List ℕ) (ns : List Node) (x : Element) (v : Node-F Node Element)
    → (child_of space local ns ≡ Some x → x.name.space ≡ space) → child_or space local v (child_of space local ns) ≡ Some x → x.name.space ≡ space
space-step space local ns x (Words w) later is = later is
space-step space local ns x (Child e) later is =
    elim (two (bytes_eq e.name.space space)) as (λ _. x.name.space ≡ space) [
      | inl t ↦ (elim (picked e x (bytes_eq e.name.space space && bytes_eq e.name.local local) (child_of space local ns) is) [
        | inl same ↦ subst (λ (y : Element). y.name.space ≡ space) same ((bytes_eq-Decides e.name.space space).0 t)
        | inr past ↦ later past
      ])
      | inr t ↦ (let z : (if false && bytes_eq e.name.local local then Some e else child_of space local ns) ≡ Some x = rw t at is in later z)
    ]

child-space : (space local : List ℕ) (ns : List Node) (x : Element) → child_of space local ns ≡ Some x → x.name.space ≡ space
child-space space local [] x is = absurd (let z : None ≡ Some x = is in cc)
child-space space local (n ∷ ns) x is = space-step space local ns x (out-Node n) (λ past. child-space space local ns x past) is

-- under another parent an element is longer by its namespace at most
moved-le : (p q : List ℕ) (x : Element) → length (text_under p x) ≤ length (text_under q x) + 10 + length x.name.local + 6 * length x.name.space
moved-le p q x = omega (arith, under-parts p x, under-parts q x, named-le p x.name)

local-le : (s : List ℕ) (e : Element) → length e.name.local ≤ length (named s e.name)
unfolding named
local-le s e = grind (arith, common_steps)

-- a child of a name, wherever it is written
pub carried-le : (p q space local : List ℕ) (e x : Element) → child_of space local e.children ≡ Some x → length space ≤ 100
    → length (text_under p e) ≤ 196608 → length (text_under q x) ≤ 400000
carried-le p q space local e x is few small =
    let wide : length x.name.space ≡ length space = ap length (child-space space local e.children x is) in
    omega (arith, few, small, wide, child-inside p space local e x is, moved-le q e.name.space x, under-parts e.name.space x, local-le e.name.space x)

-- words are as long wherever they stand

said-length : (p q : List ℕ) (ns : List Node) → length (texts_under p (filter is_said ns)) ≡ length (texts_under q (filter is_said ns))
said-length p q [] = refl
said-length p q (n ∷ ns) = by (out-Node n) refl (said-length p q ns)
  where
    by : (v : Node-F Node Element) → out-Node n ≡ v → length (texts_under p (filter is_said ns)) ≡ length (texts_under q (filter is_said ns))
        → length (texts_under p (if is_said_in v then n ∷ filter is_said ns else filter is_said ns))
        ≡ length (texts_under q (if is_said_in v then n ∷ filter is_said ns else filter is_said ns))
    by (Child e) at later = later
    by (Words w) at later =
        omega (
          arith,
          ap length (texts-words p n (filter is_said ns) w at),
          ap length (texts-words q n (filter is_said ns) w at),
          length-append (words_text w) (texts_under p (filter is_said ns)),
          length-append (words_text w) (texts_under q (filter is_said ns)),
          later,
        )

-- a reason that is told is no longer than it may be

not-longer : (n : ℕ) → nat_lt 196608 n ≡ false → n ≤ 196608
not-longer n short = grind (arith, common_steps)

pub closed-more : (local less more : List ℕ) → length less ≤ length more → length (closed local less) ≤ length (closed local more)
unfolding closed
closed-more local less more few = grind (arith, common_steps)

named-more : (s : List ℕ) (n : Name) → suc (length n.local) ≤ length (named s n)
unfolding named
named-more s n = grind (arith, common_steps)

named-there : (local : List ℕ) → length (named user_space (record { space = user_space; local = local })) ≡ suc (length local)
unfolding named
named-there local = grind (arith, common_steps)

words-le : (p : List ℕ) (r : Element) → length (text_under user_space (words_alone (as_told r))) ≤ length (text_under p r)
words-le p r =
    let inside : length (texts_under user_space (filter is_said r.children)) ≤ length (texts_under r.name.space r.children) =
    omega (arith, said-length user_space r.name.space r.children, filtered-le r.name.space is_said r.children) in
    omega (
      arith,
      under-parts user_space (words_alone (as_told r)),
      under-parts p r,
      named-there r.name.local,
      named-more p r.name,
      closed-more r.name.local (texts_under user_space (filter is_said r.children)) (texts_under r.name.space r.children) inside,
    )

own-le : (p : List ℕ) (r : Element) → length (text_under user_space (as_told r)) ≤ length (text_under p (as_told r))
own-le p r =
    omega (
      arith,
      under-parts user_space (as_told r),
      under-parts p (as_told r),
      named-there r.name.local,
      named-more p (as_told r).name,
    )

pub told-le : (p : List ℕ) (r : Element) → length (text_under p r) ≤ 196608 → length (text_under user_space (told_reason r)) ≤ 196608
told-le p r few =
    choose (λ (e : Element). length (text_under user_space e) ≤ 196608) (is_long (as_told r)) (words_alone (as_told r)) (as_told r)
    (λ (_ : _). omega (arith, few, words-le p r))
    (λ short. omega (arith, not-longer (length (text (as_told r))) short, own-le client_space r))

-- what is shown of a presence is no longer than the presence

client-space : (e : Element) (st : Stanza) → stanza_of e ≡ Some st → e.name.space ≡ client_space
client-space e st is =
    elim (two (bytes_eq e.name.space client_space)) as (λ _. e.name.space ≡ client_space) [
      | inl t ↦ (bytes_eq-Decides e.name.space client_space).0 t
      | inr t ↦ absurd (let z : None ≡ Some st = rw t at is in cc)
    ]

pub shown-le : (who : Here) (e : Element) (st : Stanza) → stanza_of e ≡ Some st → length (presence_text who e) ≤ 16384
    → length (shown_children e.children) ≤ 16384
shown-le who e st is short =
    let same : length (texts_under e.name.space e.children) ≡ length (texts_under client_space e.children) =
    ap (λ (s : List ℕ). length (texts_under s e.children)) (client-space e st is) in
    omega (
      arith,
      short,
      same,
      filtered-le client_space is_shown e.children,
      inside-le client_space (sent_by (address_text who.address) e),
    )

-- a private message has one child more
x-length : (p : List ℕ) → length (text_under p (x_of [])) ≤ 300
x-length p = omega (arith, under-le p user_space (codes "x") [] [])

pub marked-le : (e : Element) → length (text e) ≤ 196608 → length (text (marked e)) ≤ 394000
marked-le e small =
    choose (λ (y : Element). length (text y) ≤ 394000) (is_marked e) e (record e { children = e.children ++ one_child (x_of []) })
    (λ (_ : _). omega (arith, small))
    (λ (_ : _). omega (
      arith,
      small,
      under-parts client_space e,
      under-parts client_space (record e { children = e.children ++ one_child (x_of []) }),
      content-le e.name.local (texts_under e.name.space e.children),
      closed-le e.name.local (texts_under e.name.space (e.children ++ one_child (x_of []))),
      texts-both e.name.space e.children (one_child (x_of [])),
      first-length e.name.space (x_of []) [],
      x-length e.name.space,
      local-le client_space e,
    ))
