use Rattle.std.proofs.Common.{◌≡◌, ◌++◌, map}
use Rattle.std.specs.Prelude.{All}
use Rattle.http_header.specs.HeaderMap.{pairs}
use Rattle.h3_header.specs.Head.{to_field, regular_fields}
use Rattle.h3_header.specs.ReadsBack.{IsPair}
use Rattle.h3_header.proofs.headers.write.append_regular.Given as goal

abbrev pub invariant-loop-name : goal.invariant-loop-name
invariant-loop-name l =
    (l.list.items ++ map to_field l.name-iterator ≡ l.initial.list.items ++ regular_fields l.map)
    × (All IsPair l.name-iterator → All IsPair (pairs l.map))
