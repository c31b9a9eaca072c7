-- The place after all bytes is that after the rest, from here; there is room for each byte of the rest.
use Rattle.std.proofs.Common.{◌≡◌, ◌+◌, ◌-◌, ◌^◌, ◌<◌, drop, length}
use Rattle.dh_lexer.specs.LexedText.{place_from}
use Rattle.dh_lexer.proofs.lexing.place_past.Given as goal

abbrev pub invariant-loop-byte : goal.invariant-loop-byte
invariant-loop-byte l = record {
  is : place_from l.place (drop l.byte-index l.bytes) ≡ place_from l.fn.start l.bytes;
  lines : l.place.line + (length l.bytes - l.byte-index) < 2 ^ 32;
  columns : l.place.column + (length l.bytes - l.byte-index) < 2 ^ 32;
}
