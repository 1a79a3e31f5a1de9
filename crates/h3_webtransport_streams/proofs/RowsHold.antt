-- The rows hold, each by computing both sides.
use Rattle.std.proofs.Common.{refl}
use Rattle.std.specs.List.{AllByRecursion}
use Rattle.h3_coding.specs.Encodings.{encoding}
use Rattle.h3_coding.specs.Varint.{varint_at}
use Rattle.h3_capsule.specs.Capsule.{head_of, read_on}
use Rattle.h3_webtransport_streams.specs.Receiver.{names_session}
use Rattle.h3_webtransport_streams.specs.Rows.{IsCodeRow, IsFaultRow, IsFrontRow, IsNoCode, IsReadRow, RowsHold, faults, fronts, numbers, others, reads}

fronts_are : AllByRecursion IsFrontRow fronts
unfolding encoding
fronts_are = ((refl, refl), ((refl, refl), ((refl, refl), tt)))

reads_are : AllByRecursion IsReadRow reads
unfolding read_on head_of varint_at names_session
reads_are = ((refl, refl), ((refl, refl), ((refl, refl), ((refl, refl), tt))))

faults_are : AllByRecursion IsFaultRow faults
unfolding read_on head_of varint_at names_session
faults_are = (refl, (refl, (refl, (refl, (refl, tt)))))

numbers_are : AllByRecursion IsCodeRow numbers
numbers_are = ((refl, refl), ((refl, refl), ((refl, refl), ((refl, refl), tt))))

others_are : AllByRecursion IsNoCode others
others_are = (refl, (refl, (refl, (refl, (refl, tt)))))

pub rows_hold : RowsHold
rows_hold = record { fronts_are = fronts_are; reads_are = reads_are; faults_are = faults_are; numbers_are = numbers_are; others_are = others_are }
