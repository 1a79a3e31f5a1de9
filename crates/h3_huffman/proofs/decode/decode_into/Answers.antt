use Rattle.std.proofs.Common.{◌≡◌, ◌+◌, ◌-◌, ◌<◌, ◌≤◌, ◌⊎◌, arith, lit<, refl, length, inl, inr}
use Rattle.std.proofs.lemmas.List.{length-set}
use Rattle.std.proofs.lemmas.Bool.{false≢true}
use Rattle.h3_huffman.proofs.Steps.{stand_begin, stand_word, stand_byte, stand_entry, stand_long, long_end, window_high, last_entry, last_first, last_refused, last_long, last_long_refused, all_read}
use Rattle.h3_huffman.specs.PayloadLaws.{All_from}
use Rattle.h3_huffman.proofs.decode.decode_into.Goals as goal
use Rattle.h3_huffman.proofs.decode.decode_into.Goals.{then-payload-read-ge4, else-payload-read-ge4, then-word-eq-END-2-via-then-word-eq-END-2, then-word-eq-END-2-via-else-word-eq-END-2+then-word-count}

pub reading-init : goal.reading-init
reading-init c = record { standing = stand_begin _ _; few = lit< tt; room = c.requires.room }

pub symbols-init : goal.symbols-init
symbols-init c =
    let s = c.reading.invariant.standing in
    elim c.if-payload-read-ge4.branch [
      | then-payload-read-ge4 w ↦
          let there : c.reading.read + 4 ≤ length c.args.payload.now = omega (arith, w.if-payload-read-ge4.true) in
          let next = stand_word _ _ _ _ _ _ w.word_at.result s (omega arith) there (omega (arith, w.word_at.type_inv)) w.word_at.ensures in
          record { standing = rw (w.acc-is, w.count-is, w.read-is, w.from.ensures) next; few = rw w.count-is (omega arith); room = c.reading.invariant.room }
      | else-payload-read-ge4 w ↦
          let next = stand_byte _ _ _ _ _ _ w.from-else-payload-read-ge4.result s (omega arith) c.reading-test.true (omega (arith, w.from-else-payload-read-ge4.ensures, c.type_inv.payload c.reading.read)) w.from-else-payload-read-ge4.ensures in
          record { standing = rw (w.acc-is, w.count-is, w.read-is) next; few = rw w.count-is (omega arith); room = c.reading.invariant.room }
    ]

pub symbols-preserved-then-index-lt-LONG : goal.symbols-preserved-then-index-lt-LONG
symbols-preserved-then-index-lt-LONG c =
    record {
      standing = stand_entry _ _ _ _ _ _ _ _ _ _ c.symbols.invariant.standing c.symbols-test.true c.entry_at-entry.ensures c.length-count.ensures c.put_symbols-written.ensures.place c.put_symbols-written.ensures.symbols;
      few = omega arith;
      room = omega (arith, c.put_symbols-written.auto.out, c.symbols.invariant.room);
    }

pub long_word-word-requires-clause-high : goal.long_word-word-requires-clause-high
long_word-word-requires-clause-high c =
    let d : c.symbols.count - 30 + 18 ≡ c.symbols.count - 12 = omega arith in
    window_high c.if-payload-read-ge4.acc (c.symbols.count - 30) (rw d c.if-index-lt-LONG.false)

pub returns-then-word-eq-END : goal.returns-then-word-eq-END
returns-then-word-eq-END c =
    record { whole = long_end _ _ _ _ _ _ _ _ c.symbols.invariant.standing c.symbols-test.true c.long_word-word.ensures.word c.long_word-word.ensures.most c.if-word-eq-END.true }

pub symbols-preserved : goal.symbols-preserved
symbols-preserved c =
    record {
      standing = stand_long _ _ _ _ _ _ _ _ c.symbols.invariant.standing c.symbols-test.true c.long_word-word.ensures.word (omega (arith, c.long_word-word.ensures.symbol, c.if-word-eq-END.false)) c.long_word-word.ensures.least c.long_word-word.ensures.most (omega (arith, c.symbols.invariant.standing.room, c.symbols.invariant.standing.within, c.symbols.invariant.room));
      few = omega arith;
      room = rw (length-set {A = _}) c.symbols.invariant.room;
    }

pub ending-preserved-then-length-count : goal.ending-preserved-then-length-count
ending-preserved-then-length-count c =
    let put = c.put_symbols-written-then-length-count in
    record {
      standing = last_entry _ _ _ _ _ _ _ _ _ _ c.ending.invariant.standing c.ending.invariant.few c.entry_at-entry-then-index-lt-LONG-2.ensures c.length-length.ensures c.if-length-count.true put.ensures.place put.ensures.symbols;
      few = omega arith;
      all = c.ending.invariant.all;
      room = omega (arith, put.auto.out, c.ending.invariant.room);
      wide = refl;
    }

pub ending-preserved-then-first_length-count : goal.ending-preserved-then-first_length-count
ending-preserved-then-first_length-count c =
    let s = c.ending.invariant.standing in
    record {
      standing = rw c.first.ensures (last_first _ _ _ _ _ _ _ _ s c.ending.invariant.few c.entry_at-entry-then-index-lt-LONG-2.ensures c.first_length-first_length.ensures c.if-first_length-count.true (omega (arith, s.room, s.within, c.ending.invariant.room)));
      few = omega arith;
      all = c.ending.invariant.all;
      room = rw (length-set {A = _}) c.ending.invariant.room;
      wide = refl;
    }

pub returns-else-first_length-count : goal.returns-else-first_length-count
returns-else-first_length-count c =
    record { whole = last_refused _ _ _ _ _ _ _ _ c.ending.invariant.standing c.ending.invariant.all c.ending.invariant.few c.entry_at-entry-then-index-lt-LONG-2.ensures c.first_length-first_length.ensures c.if-first_length-count.false (λ p. false≢true (c.ending-test.ensures.1 p)) }

pub long_word-word-requires-else-index-lt-LONG-2-clause-high : goal.long_word-word-requires-else-index-lt-LONG-2-clause-high
long_word-word-requires-else-index-lt-LONG-2-clause-high c =
    window_high _ (c.ending.count + 2) (let d : c.ending.count + 2 + 18 ≡ c.ending.count + 20 = omega arith in rw d c.if-index-lt-LONG-2.false)

pub returns-then-word-eq-END-2 : goal.returns-then-word-eq-END-2
returns-then-word-eq-END-2 c =
    let word = c.long_word-word-else-index-lt-LONG-2 in
    let why : (word.result.symbol ≡ 256) ⊎ (c.ending.count < word.result.length) = elim c.then-word-eq-END-2.branch [
      | then-word-eq-END-2-via-then-word-eq-END-2 w ↦ inl w.if-word-eq-END-2.true
      | then-word-eq-END-2-via-else-word-eq-END-2+then-word-count w ↦ inr w.if-word-count.true
    ] in
    record { whole = last_long_refused _ _ _ _ _ _ _ _ c.ending.invariant.standing c.ending.invariant.all c.ending.invariant.few word.ensures.word word.ensures.symbol word.ensures.most why (λ p. false≢true (c.ending-test.ensures.1 p)) }

pub ending-preserved : goal.ending-preserved
ending-preserved c =
    let word = c.long_word-word-else-index-lt-LONG-2 in
    record {
      standing = last_long _ _ _ _ _ _ _ _ c.ending.invariant.standing c.ending.invariant.few word.ensures.word (omega (arith, word.ensures.symbol, c.if-word-eq-END-2.false)) word.ensures.least word.ensures.most c.if-word-count.false (omega (arith, c.ending.invariant.standing.room, c.ending.invariant.standing.within, c.ending.invariant.room));
      few = omega arith;
      all = c.ending.invariant.all;
      room = rw (length-set {A = _}) c.ending.invariant.room;
      wide = refl;
    }

pub returns : goal.returns
returns c =
    let s = c.ending.invariant.standing in
    record { whole = (omega (arith, s.room, s.within, c.ending.invariant.room), s.bytes, all_read _ _ _ _ _ _ (All_from c.args.payload.now (λ k. omega (arith, c.type_inv.payload k))) s c.ending.invariant.all (c.ending-test.ensures.0 refl).0 (c.ending-test.ensures.0 refl).1) }
