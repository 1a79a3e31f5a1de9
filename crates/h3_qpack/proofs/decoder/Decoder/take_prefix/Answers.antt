use Rattle.std.proofs.Common.{unwrap_or, ◌∙◌, sym, ap, arith}
use Rattle.h3_qpack.specs.DecoderState.{DecoderState, count_capacity}
use Rattle.h3_qpack.proofs.Prefixes.{Begun, prefix_read, has_prefix, has_no_entry, no_prefix, no_other_prefix, is_allowed_else, prefix_takes_none, count_takes_none}
use Rattle.h3_qpack.proofs.DecodedLaws.{section_lines, section_missing, section_bad, section_refused, prefix_refused}
use Rattle.h3_qpack.proofs.decoder.Decoder.take_prefix.Goals as goal

pub returns-in-Err-clause-err : goal.returns-in-Err-clause-err
returns-in-Err-clause-err c = rw c.from.ensures (prefix_refused _ _ _ c.in-Err.e c.in-Err.ensures.answer)

pub returns-then-names_no_entry-clause-ok : goal.returns-then-names_no_entry-clause-ok
returns-then-names_no_entry-clause-ok c =
    let begun : Begun c.args.self.now c.args.buf.now c.decode.new.buf c.in-Ok.prefix c.inserted-inserted.result c.unwrap_or-capacity.result = record {
      whole = prefix_read c.args.buf.now c.decode.new.buf c.in-Ok.prefix c.in-Ok.ensures.answer;
      inserted_is = c.inserted-inserted.ensures.value ∙ ap (λ r. r.table.inserted) c.self.view_is;
      capacity_is = c.unwrap_or-capacity.ensures ∙ ap (unwrap_or c.self.inside.announced) c.capacity.ensures.value ∙ ap count_capacity c.self.view_is;
    } in
    section_lines _ _ _ _ _ (has_no_entry _ _ _ _ _ _ begun (ap (λ (r : DecoderState). r.checks_count) (sym c.self.view_is) ∙ c.if-self.true) c.if-capacity-eq0.true (sym c.if-names_no_entry.ensures)) (omega arith)

pub returns-then-names_no_entry-clause-begins : goal.returns-then-names_no_entry-clause-begins
returns-then-names_no_entry-clause-begins c =
    let begun : Begun c.args.self.now c.args.buf.now c.decode.new.buf c.in-Ok.prefix c.inserted-inserted.result c.unwrap_or-capacity.result = record {
      whole = prefix_read c.args.buf.now c.decode.new.buf c.in-Ok.prefix c.in-Ok.ensures.answer;
      inserted_is = c.inserted-inserted.ensures.value ∙ ap (λ r. r.table.inserted) c.self.view_is;
      capacity_is = c.unwrap_or-capacity.ensures ∙ ap (unwrap_or c.self.inside.announced) c.capacity.ensures.value ∙ ap count_capacity c.self.view_is;
    } in
    (has_no_entry _ _ _ _ _ _ begun (ap (λ (r : DecoderState). r.checks_count) (sym c.self.view_is) ∙ c.if-self.true) c.if-capacity-eq0.true (sym c.if-names_no_entry.ensures), omega arith)

pub returns-then-capacity-eq0-clause-err : goal.returns-then-capacity-eq0-clause-err
returns-then-capacity-eq0-clause-err c =
    let begun : Begun c.args.self.now c.args.buf.now c.decode.new.buf c.in-Ok.prefix c.inserted-inserted.result c.unwrap_or-capacity.result = record {
      whole = prefix_read c.args.buf.now c.decode.new.buf c.in-Ok.prefix c.in-Ok.ensures.answer;
      inserted_is = c.inserted-inserted.ensures.value ∙ ap (λ r. r.table.inserted) c.self.view_is;
      capacity_is = c.unwrap_or-capacity.ensures ∙ ap (unwrap_or c.self.inside.announced) c.capacity.ensures.value ∙ ap count_capacity c.self.view_is;
    } in
    section_bad _ _ (no_other_prefix _ _ _ _ _ _ begun (ap (λ (r : DecoderState). r.checks_count) (sym c.self.view_is) ∙ c.if-self.true) c.if-capacity-eq0.true (sym c.if-names_no_entry.ensures))

pub returns-in-Err-get-clause-err : goal.returns-in-Err-get-clause-err
returns-in-Err-get-clause-err c =
    let begun : Begun c.args.self.now c.args.buf.now c.decode.new.buf c.in-Ok.prefix c.inserted-inserted.result c.unwrap_or-capacity.result = record {
      whole = prefix_read c.args.buf.now c.decode.new.buf c.in-Ok.prefix c.in-Ok.ensures.answer;
      inserted_is = c.inserted-inserted.ensures.value ∙ ap (λ r. r.table.inserted) c.self.view_is;
      capacity_is = c.unwrap_or-capacity.ensures ∙ ap (unwrap_or c.self.inside.announced) c.capacity.ensures.value ∙ ap count_capacity c.self.view_is;
    } in
    section_refused _ _ _ (rw c.from-in-Err-get.ensures (no_prefix _ _ _ _ _ _ c.in-Err-get.e begun c.in-Err-get.ensures))

pub returns-then-count-inserted-clause-err : goal.returns-then-count-inserted-clause-err
returns-then-count-inserted-clause-err c =
    let begun : Begun c.args.self.now c.args.buf.now c.decode.new.buf c.in-Ok.prefix c.inserted-inserted.result c.unwrap_or-capacity.result = record {
      whole = prefix_read c.args.buf.now c.decode.new.buf c.in-Ok.prefix c.in-Ok.ensures.answer;
      inserted_is = c.inserted-inserted.ensures.value ∙ ap (λ r. r.table.inserted) c.self.view_is;
      capacity_is = c.unwrap_or-capacity.ensures ∙ ap (unwrap_or c.self.inside.announced) c.capacity.ensures.value ∙ ap count_capacity c.self.view_is;
    } in
    let allowed = is_allowed_else c.args.self.now c.in-Ok.prefix c.self.inside.checks_count c.unwrap_or-capacity.result (ap (λ (r : DecoderState). r.checks_count) c.self.view_is) begun.capacity_is c.else-self.either in
    section_missing _ _ _ (record { rest = c.decode.new.buf; base = c.in-Ok-get.found.1; begins = has_prefix _ _ _ _ _ _ _ _ begun allowed c.in-Ok-get.ensures; missing = omega (arith, begun.inserted_is, c.if-count-inserted.true) })

pub returns-clause-ok : goal.returns-clause-ok
returns-clause-ok c =
    let begun : Begun c.args.self.now c.args.buf.now c.decode.new.buf c.in-Ok.prefix c.inserted-inserted.result c.unwrap_or-capacity.result = record {
      whole = prefix_read c.args.buf.now c.decode.new.buf c.in-Ok.prefix c.in-Ok.ensures.answer;
      inserted_is = c.inserted-inserted.ensures.value ∙ ap (λ r. r.table.inserted) c.self.view_is;
      capacity_is = c.unwrap_or-capacity.ensures ∙ ap (unwrap_or c.self.inside.announced) c.capacity.ensures.value ∙ ap count_capacity c.self.view_is;
    } in
    let allowed = is_allowed_else c.args.self.now c.in-Ok.prefix c.self.inside.checks_count c.unwrap_or-capacity.result (ap (λ (r : DecoderState). r.checks_count) c.self.view_is) begun.capacity_is c.else-self.either in
    section_lines _ _ _ _ _ (has_prefix _ _ _ _ _ _ _ _ begun allowed c.in-Ok-get.ensures) (omega (arith, begun.inserted_is, c.if-count-inserted.false))

pub returns-in-Err-clause-memory : goal.returns-in-Err-clause-memory
returns-in-Err-clause-memory c = rw c.from.ensures (prefix_takes_none c.args.buf.now c.decode.new.buf c.in-Err.e c.in-Err.ensures.answer)

pub returns-in-Err-get-clause-memory : goal.returns-in-Err-get-clause-memory
returns-in-Err-get-clause-memory c = rw c.from-in-Err-get.ensures (count_takes_none c.unwrap_or-capacity.result c.inserted-inserted.result c.in-Ok.prefix c.in-Err-get.e c.in-Err-get.ensures)

pub returns-clause-begins : goal.returns-clause-begins
returns-clause-begins c =
    let begun : Begun c.args.self.now c.args.buf.now c.decode.new.buf c.in-Ok.prefix c.inserted-inserted.result c.unwrap_or-capacity.result = record {
      whole = prefix_read c.args.buf.now c.decode.new.buf c.in-Ok.prefix c.in-Ok.ensures.answer;
      inserted_is = c.inserted-inserted.ensures.value ∙ ap (λ r. r.table.inserted) c.self.view_is;
      capacity_is = c.unwrap_or-capacity.ensures ∙ ap (unwrap_or c.self.inside.announced) c.capacity.ensures.value ∙ ap count_capacity c.self.view_is;
    } in
    let allowed = is_allowed_else c.args.self.now c.in-Ok.prefix c.self.inside.checks_count c.unwrap_or-capacity.result (ap (λ (r : DecoderState). r.checks_count) c.self.view_is) begun.capacity_is c.else-self.either in
    (has_prefix _ _ _ _ _ _ _ _ begun allowed c.in-Ok-get.ensures, omega (arith, begun.inserted_is, c.if-count-inserted.false))
