-- Where nothing waits.
use Rattle.std.proofs.Common.{◌≡◌, [], ◌∷◌, refl, sym, ap, append-nil, true, false, not}
use Rattle.std.specs.Prelude.{Option, None, Some, option_to_list}
use Rattle.stream_grammar.specs.machine.Calls.{Called, hands}
use Rattle.stream_grammar.specs.declared.item.Item.{Item}
use Rattle.stream_grammar.specs.declared.item.Limits.{Limits}
use Rattle.stream_grammar.specs.machine.Reading.{Reading, reads, stopped, waiting, handed, is_done, is_none}
use Rattle.stream_frames.specs.Fed.{Fed}

no-item : (i : Option Item) → not (is_none i) ≡ false → None ≡ i
no-item None h = refl
no-item (Some i) h = absurd (let bad : true ≡ false = h in cc)

pub none_waits : (s : Reading) → is_done s ≡ false → None ≡ waiting s
none_waits (reads f b n k) h = no-item b.item h
none_waits (stopped f k) h = absurd (let bad : true ≡ false = h in cc)

none-left : (s : Reading) → is_done s ≡ false → s ≡ handed s
none-left (reads f b n k) h = ap (λ (i : Option Item). reads f (record b { item = i }) n k) (sym (no-item b.item h))
none-left (stopped f k) h = absurd (let bad : true ≡ false = h in cc)

pub none_handed : (f : Fed) → is_done f.reading ≡ false → f ≡ record f { reading = handed f.reading }
none_handed f h = ap (λ (s : Reading). record f { reading = s }) (none-left f.reading h)

-- what waits was handed out
pub one_called : (l : Limits) (s t : Reading) (next : Option Item) → next ≡ waiting s → t ≡ handed s → Called l s (hands next ∷ []) (option_to_list next) t
one_called l s t next item here = (item, ([], sym (append-nil (option_to_list next)), (refl, here)))
