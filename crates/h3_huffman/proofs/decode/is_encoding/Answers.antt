use Rattle.std.proofs.Common.{◌≡◌, ◌<◌, ◌⊎◌, arith, lit<, refl, inl, inr}
use Rattle.std.proofs.lemmas.Bool.{false≢true}
use Rattle.h3_huffman.specs.PayloadLaws.{All_from}
use Rattle.h3_huffman.proofs.Steps.{long_end, last_long_refused}
use Rattle.h3_huffman.proofs.Judging.{judged_begin, judged_byte, judged_inside, judged_last, judged_none, judged_some}
use Rattle.h3_huffman.proofs.decode.is_encoding.Goals as goal
use Rattle.h3_huffman.proofs.decode.is_encoding.Goals.{then-first-eq-END-2-via-then-first-eq-END-2, then-first-eq-END-2-via-else-first-eq-END-2+then-first-count}

pub reading-init : goal.reading-init
reading-init c = record { judged = judged_begin _; few = lit< tt }

pub symbols-init : goal.symbols-init
symbols-init c =
    record {
      judged = judged_byte _ _ _ _ _ c.reading.invariant.judged (omega (arith, c.reading.invariant.few)) c.reading-test.true (omega (arith, c.from.ensures, c.type_inv.payload c.reading.read)) c.from.ensures;
      few = omega (arith, c.reading.invariant.few);
    }

pub returns-then-first-eq-END : goal.returns-then-first-eq-END
returns-then-first-eq-END c =
    let first = c.first_word-first.ensures in
    judged_none _ (long_end _ _ _ _ _ _ _ _ c.symbols.invariant.judged.standing c.symbols-test.true first.word first.most c.if-first-eq-END.true)

pub symbols-preserved : goal.symbols-preserved
symbols-preserved c =
    let first = c.first_word-first.ensures in
    record {
      judged = judged_inside _ _ _ _ _ _ c.symbols.invariant.judged c.symbols-test.true first.word (omega (arith, first.symbol, c.if-first-eq-END.false)) first.least first.most;
      few = omega (arith, c.symbols.invariant.few);
    }

pub returns-then-first-eq-END-2 : goal.returns-then-first-eq-END-2
returns-then-first-eq-END-2 c =
    let first = c.first_word-first-in-ending in
    let why : (first.result.symbol ≡ 256) ⊎ (c.ending.count < first.result.length) = elim c.then-first-eq-END-2.branch [
      | then-first-eq-END-2-via-then-first-eq-END-2 w ↦ inl w.if-first-eq-END-2.true
      | then-first-eq-END-2-via-else-first-eq-END-2+then-first-count w ↦ inr w.if-first-count.true
    ] in
    judged_none _ (last_long_refused _ _ _ _ _ _ _ _ c.ending.invariant.judged.standing c.ending.invariant.all c.ending.invariant.few first.ensures.word first.ensures.symbol first.ensures.most why (λ p. false≢true (c.ending-test.ensures.1 p)))

pub ending-preserved : goal.ending-preserved
ending-preserved c =
    let first = c.first_word-first-in-ending.ensures in
    record {
      judged = judged_last _ _ _ _ _ _ c.ending.invariant.judged c.ending.invariant.few first.word (omega (arith, first.symbol, c.if-first-eq-END-2.false)) first.least first.most c.if-first-count.false;
      few = omega (arith, c.ending.invariant.few);
      all = c.ending.invariant.all;
      wide = refl;
    }

pub returns : goal.returns
returns c =
    judged_some _ _ _ _ (All_from c.args.payload.now (λ k. omega (arith, c.type_inv.payload k))) c.ending.invariant.judged c.ending.invariant.all (c.ending-test.ensures.0 refl).0 (c.ending-test.ensures.0 refl).1
