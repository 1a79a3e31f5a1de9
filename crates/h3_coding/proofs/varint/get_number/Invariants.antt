use Rattle.std.proofs.Common.{◌≡◌, ◌*◌, ◌^◌, ◌<◌, ◌∷◌, take, drop}
use Rattle.std.specs.List.{AllByRecursion}
use Rattle.h3_coding.specs.Encodings.{big_endian, IsByte}
use Rattle.h3_coding.proofs.varint.get_number.Given as goal

abbrev pub invariant-loop : goal.invariant-loop
invariant-loop g l =
    let all = g.B.Buf.unread l.fn.buf in
    record {
      value : l.number ≡ big_endian (l.first ∷ take l.counter all);
      bytes : AllByRecursion IsByte (take l.counter all);
      below : l.number < 64 * 256 ^ l.counter;
      rest : g.B.Buf.unread l.buf ≡ drop l.counter all;
      kept : g.B.Buf.kept l.buf ≡ g.B.Buf.kept l.fn.buf;
    }
