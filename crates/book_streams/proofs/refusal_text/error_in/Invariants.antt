use Rattle.std.proofs.Common.{◌≡◌, ◌++◌, ◌||◌, drop, false}
use Rattle.std.specs.String.{string_bytes}
use Rattle.std.specs.List.{list_any}
use Rattle.book_streams.specs.RefusalText.{is_refused, parts_text}
use Rattle.book_streams.proofs.refusal_text.error_in.Given as goal

abbrev pub invariant-loop-place : goal.invariant-loop-place
invariant-loop-place l = record {
  later : (l.is_later || list_any is_refused (drop l.place l.parts)) ≡ list_any is_refused l.parts;
  text : string_bytes l.text ++ parts_text l.place l.is_later (drop l.place l.parts) ≡ parts_text 0 false l.parts;
}
