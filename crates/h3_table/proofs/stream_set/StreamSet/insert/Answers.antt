use Rattle.std.proofs.Common.{◌∙◌, refl, length, arith}
use Rattle.std.proofs.lemmas.Result.{err_from_is_err_and}
use Rattle.h3_table.specs.StreamSet.{streams_in}
use Rattle.h3_table.specs.Words.{word_at}
use Rattle.h3_table.proofs.StreamSets.{added, put_first, same_streams, not_found, none_of_word, still_few, one_more_few}
use Rattle.h3_table.proofs.stream_set.StreamSet.insert.Goals as goal

pub returns-then-add-clause-ok : goal.returns-then-add-clause-ok
returns-then-add-clause-ok c =
    rw (← c.self.view_is)
    (added (word_at c.self.inside.words) (word_at c.add.new.self) c.args.stream c.word_of-number.result c.bit_of-bit.result c.ranges.stream.fits c.word_of-number.ensures c.bit_of-bit.ensures.value (c.if-add.ensures.added refl))

pub returns-in_err-insert-clause-err : goal.returns-in_err-insert-clause-err
returns-in_err-insert-clause-err c =
    let p = err_from_is_err_and c.from_residual.result c.from_residual.ensures.1 in
    let words = word_at c.self.inside.words in
    rw (p.1, ← c.self.view_is) (
      same_streams (word_at c.add.new.self) (word_at c.insert.new.self) c.in_err-insert.ensures.err ∙ same_streams words (word_at c.add.new.self) (c.if-add.ensures.unchanged refl),
      not_found words c.args.stream c.word_of-number.result c.ranges.stream.fits c.word_of-number.ensures (c.if-add.ensures.not_there refl),
    )

pub returns-in_err-insert-clause-room : goal.returns-in_err-insert-clause-room
returns-in_err-insert-clause-room c =
    let p = err_from_is_err_and c.from_residual.result c.from_residual.ensures.1 in
    rw (p.1, ← c.self.view_is) (none_of_word (word_at c.self.inside.words) c.args.stream c.word_of-number.result c.word_of-number.ensures (c.if-add.ensures.not_there refl))

pub returns-clause-ok : goal.returns-clause-ok
returns-clause-ok c =
    rw (← c.self.view_is)
    (put_first (word_at c.self.inside.words) (word_at c.add.new.self) (word_at c.insert.new.self) c.args.stream c.word_of-number.result c.bit_of-bit.result c.ranges.stream.fits c.word_of-number.ensures
    c.bit_of-bit.ensures.value (c.if-add.ensures.unchanged refl) (c.if-add.ensures.not_there refl) c.in_ok-insert.ensures.ok)

pub invariant_of-self : goal.invariant_of-self
invariant_of-self c =
    let words = word_at c.self.inside.words in
    let after = added words (word_at c.add.new.self) c.args.stream c.word_of-number.result c.bit_of-bit.result c.ranges.stream.fits c.word_of-number.ensures c.bit_of-bit.ensures.value (c.if-add.ensures.added refl) in
    record {
      short = c.if-add.ensures.short c.self.invariant.short;
      count = still_few (streams_in words) (streams_in (word_at c.add.new.self)) c.args.stream c.self.inside.words.count c.add.new.self.count after c.self.invariant.count (omega (arith, c.if-add.ensures.count));
      further = still_few (streams_in words) (streams_in (word_at c.add.new.self)) c.args.stream (length c.self.inside.words.further.entries) (length c.add.new.self.further.entries) after c.self.invariant.further (omega (arith, c.if-add.ensures.further));
    }

pub invariant_of-self-2 : goal.invariant_of-self-2
invariant_of-self-2 c =
    let words = word_at c.self.inside.words in
    let after =
    put_first words (word_at c.add.new.self) (word_at c.insert.new.self) c.args.stream c.word_of-number.result c.bit_of-bit.result c.ranges.stream.fits c.word_of-number.ensures
    c.bit_of-bit.ensures.value (c.if-add.ensures.unchanged refl) (c.if-add.ensures.not_there refl) c.in_ok-insert.ensures.ok in
    let none = not_found words c.args.stream c.word_of-number.result c.ranges.stream.fits c.word_of-number.ensures (c.if-add.ensures.not_there refl) in
    record {
      short = c.in_ok-insert.ensures.short (c.if-add.ensures.short c.self.invariant.short);
      count = one_more_few (streams_in words) (streams_in (word_at c.insert.new.self)) c.args.stream c.self.inside.words.count c.insert.new.self.count after none c.self.invariant.count
          (omega (arith, c.in_ok-insert.ensures.more.count, c.if-add.ensures.count));
      further = one_more_few (streams_in words) (streams_in (word_at c.insert.new.self)) c.args.stream (length c.self.inside.words.further.entries) (length c.insert.new.self.further.entries) after none c.self.invariant.further
          (omega (arith, c.in_ok-insert.ensures.more.further, c.if-add.ensures.further));
    }
