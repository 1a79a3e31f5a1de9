use Rattle.std.proofs.Common.{◌-◌, ◌+◌, ◌<◌, ◌≤◌, length, drop, refl, sym, subst, ap, ap₂, ◌∙◌}
use Rattle.std.specs.List.{concat}
use Rattle.h3_coding.specs.Varint.{varint_at}
use Rattle.h3_frames.specs.Frames.{Unfinished, Whole, TakesMemory}
use Rattle.h3_frames.specs.declared.proto.frame.Frame.TheVariants as frame
use Rattle.h3_frames.proofs.Updates.{all_of, is_on, update_there, update_waits, without_number}
use Rattle.h3_frames.proofs.frame.decoder.decode_update.Goals as goal

pub returns-in_default-get_var-clause-none : goal.returns-in_default-get_var-clause-none
returns-in_default-get_var-clause-none c = λ none.
    let start = ap (λ n. drop n c.cursor-cursor.result.all) c.cursor-cursor.ensures.position ∙ c.cursor-cursor.ensures.all in
    without_number c.args.kinds c.in-Ok.kind (concat c.args.src.now.pieces) _ (sym (ap varint_at start) ∙ c.in-Ok.ensures.reads) c.in_default-get_var.ensures.reads

pub returns-then-behind-len-clause-tries : goal.returns-then-behind-len-clause-tries
returns-then-behind-len-clause-tries c =
    let number = c.in-Ok-get_var.number in
    let start = ap (λ n. drop n c.cursor-cursor.result.all) c.cursor-cursor.ensures.position ∙ c.cursor-cursor.ensures.all in
    let short = subst (λ n. n < number) c.remaining-behind.ensures c.if-behind-len.true in
    let waits = update_waits c.args.kinds c.in-Ok.kind number (concat c.args.src.now.pieces) _ _ (sym c.is_update_type.ensures ∙ c.if-not-is_update_type.false) (sym (ap varint_at start) ∙ c.in-Ok.ensures.reads) c.in-Ok-get_var.ensures.reads short in
    (waits ∙ ap₂ (λ a b. Unfinished (a - b + number)) (sym (c.remaining-all.ensures ∙ ap length start)) (sym c.remaining-behind.ensures), refl)

pub returns-in-Some-Ok-clause-tries : goal.returns-in-Some-Ok-clause-tries
returns-in-Some-Ok-clause-tries c =
    let number = c.in-Ok-get_var.number in
    let start = ap (λ n. drop n c.cursor-cursor.result.all) c.cursor-cursor.ensures.position ∙ c.cursor-cursor.ensures.all in
    let there = subst (λ n. number ≤ n) c.remaining-behind.ensures c.if-behind-len.false in
    let whole = update_there c.args.kinds c.in-Ok.kind number (concat c.args.src.now.pieces) _ _ (is_on c.args.kinds.updates c.if-not-kinds.false) (sym c.is_update_type.ensures ∙ c.if-not-is_update_type.false) (sym (ap varint_at start) ∙ c.in-Ok.ensures.reads) c.in-Ok-get_var.ensures.reads there in
    let made = rw c.in-Some-Ok.field-0-is at c.in-Some-Ok.ensures.ok in
    let all = ap all_of (c.read_update.ensures.kept ∙ c.get_var-2.ensures.kept ∙ c.get_var.ensures.kept) ∙ c.cursor-cursor.ensures.all in
    let rest = ap₂ (λ n l. drop n l) (sym c.position-position.ensures) all ∙ sym c.advance.ensures.value in
    whole ∙ made ∙ ap (Whole (frame.PriorityUpdate c.in-Some-Ok.update)) rest

pub returns-in-Some-Err-clause-tries : goal.returns-in-Some-Err-clause-tries
returns-in-Some-Err-clause-tries c =
    let number = c.in-Ok-get_var.number in
    let start = ap (λ n. drop n c.cursor-cursor.result.all) c.cursor-cursor.ensures.position ∙ c.cursor-cursor.ensures.all in
    let there = subst (λ n. number ≤ n) c.remaining-behind.ensures c.if-behind-len.false in
    let whole = update_there c.args.kinds c.in-Ok.kind number (concat c.args.src.now.pieces) _ _ (is_on c.args.kinds.updates c.if-not-kinds.false) (sym c.is_update_type.ensures ∙ c.if-not-is_update_type.false) (sym (ap varint_at start) ∙ c.in-Ok.ensures.reads) c.in-Ok-get_var.ensures.reads there in
    let wants = rw c.in-Some-Err.field-0-is at c.in-Some-Err.ensures.memory in
    (subst TakesMemory (sym whole) wants, refl)

pub returns-in-None-clause-tries : goal.returns-in-None-clause-tries
returns-in-None-clause-tries c =
    let number = c.in-Ok-get_var.number in
    let start = ap (λ n. drop n c.cursor-cursor.result.all) c.cursor-cursor.ensures.position ∙ c.cursor-cursor.ensures.all in
    let there = subst (λ n. number ≤ n) c.remaining-behind.ensures c.if-behind-len.false in
    let whole = update_there c.args.kinds c.in-Ok.kind number (concat c.args.src.now.pieces) _ _ (is_on c.args.kinds.updates c.if-not-kinds.false) (sym c.is_update_type.ensures ∙ c.if-not-is_update_type.false) (sym (ap varint_at start) ∙ c.in-Ok.ensures.reads) c.in-Ok-get_var.ensures.reads there in
    (whole ∙ c.in-None.ensures.refused refl, refl)
