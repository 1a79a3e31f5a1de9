-- The rows hold, each by computing both sides.
use Rattle.std.proofs.Common.{refl}
use Rattle.std.specs.List.{AllByRecursion}
use Rattle.h3_coding.specs.Encodings.{encoding}
use Rattle.h3_coding.specs.Varint.{varint_at}
use Rattle.h3_capsule.specs.Capsule.{head_of, read_on}
use Rattle.h3_capsule.specs.Datagram.{datagram_of}
use Rattle.h3_capsule.specs.Told.{told}
use Rattle.h3_capsule.specs.Rows.{TellsRow, AnswersRow, IsDatagramRow, IsHeadRow, capsules, calls, datagrams, heads, RowsHold}

capsules_are : AllByRecursion TellsRow capsules
unfolding told head_of varint_at
capsules_are = (refl, (refl, (refl, (refl, (refl, (refl, (refl, tt)))))))

calls_are : AllByRecursion AnswersRow calls
unfolding read_on head_of varint_at
calls_are = (refl, (refl, (refl, (refl, (refl, (refl, (refl, (refl, (refl, (refl, (refl, tt)))))))))))

datagrams_are : AllByRecursion IsDatagramRow datagrams
unfolding datagram_of varint_at
datagrams_are = (refl, (refl, (refl, (refl, (refl, (refl, (refl, (refl, (refl, tt)))))))))

heads_are : AllByRecursion IsHeadRow heads
unfolding encoding
heads_are = (refl, (refl, (refl, (refl, tt))))

pub rows_hold : RowsHold
rows_hold = record { capsules_are = capsules_are; calls_are = calls_are; datagrams_are = datagrams_are; heads_are = heads_are }
