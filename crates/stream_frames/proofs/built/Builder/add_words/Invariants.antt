use Rattle.std.proofs.Common.{◌≡◌, ◌≤◌, ◌+◌, ◌*◌, drop, length, true}
use Rattle.std.specs.Prelude.{string_len, string_capacity}
use Rattle.std.specs.Option.{is_some}
use Rattle.stream_frames.specs.Builds.{building}
use Rattle.stream_grammar.specs.machine.Building.{build_all}
use Rattle.stream_grammar.specs.machine.Telling.{are_words}
use Rattle.stream_frames.proofs.built.Builder.add_words.Given as goal

abbrev pub invariant-loop-token : goal.invariant-loop-token
invariant-loop-token l = record {
  built : build_all (building l.self) (drop l.token-index l.told) ≡ build_all (building l.fn.self) l.told;
  words : are_words (drop l.token-index l.told) ≡ true;
  room : string_len l.self.words + 4 * length (drop l.token-index l.told) ≤ string_capacity l.self.words;
  inside : is_some l.self.innermost ≡ true;
}
