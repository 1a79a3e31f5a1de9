use Rattle.std.proofs.Common.{map}
use Rattle.std.specs.Prelude.{All}
use Rattle.std.specs.List.{AllByRecursion}
use Rattle.http_header.specs.HeaderMap.{pairs}
use Rattle.h3_field.specs.ReadBack.{IsFieldOfBytes}
use Rattle.h3_header.specs.Head.{to_field, regular_fields}
use Rattle.h3_header.specs.ReadsBack.{IsPair}
use Rattle.h3_header.proofs.headers.write.visit_regular.Given as goal

abbrev pub invariant-loop-name : goal.invariant-loop-name
invariant-loop-name l =
    (All IsPair l.name-iterator → All IsPair (pairs l.map))
    × (AllByRecursion IsFieldOfBytes (map to_field l.name-iterator) → AllByRecursion IsFieldOfBytes (regular_fields l.map))
