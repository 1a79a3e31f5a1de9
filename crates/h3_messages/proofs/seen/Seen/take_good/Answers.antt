use Rattle.std.proofs.Common.{◌≡◌, ◌+◌, true, None, Some, drop, get_or, fold, ap, sym, subst, ◌∙◌, arith}
use Rattle.std.proofs.lemmas.List.Elements.{All-more}
use Rattle.std.proofs.lemmas.Option.{get_or_from_slice_get, slice_get_within}
use Rattle.h3_header.specs.BadPart.{bad_part}
use Rattle.h3_header.specs.HeadRead.{head_by, is_name_at}
use Rattle.h3_header.specs.Reads.{kind_of}
use Rattle.h3_messages.specs.InvalidFieldLaws.{head_is_good}
use Rattle.h3_messages.specs.KindLaws.{name_is_good}
use Rattle.h3_messages.specs.Outline.{IsOutlined, empty_outline, outlined, outlined_by}
use Rattle.h3_messages.proofs.Outlines.{all_good, last_outline, next_outline, short_head, status_is_good}
use Rattle.h3_messages.proofs.Surveys.{seen_at}
use Rattle.h3_messages.proofs.seen.Seen.take_good.Goals as goal

pub returns-in-Err-clause-err : goal.returns-in-Err-clause-err
returns-in-Err-clause-err c =
    let any = c.args.any_protocol in
    let fields = c.args.fields.now in
    let i = c.fields.place in
    let field = c.get-field.result in
    let here = subst (λ f. bad_part any f ≡ Some c.in-Err.part) (sym (get_or_from_slice_get fields i field field c.get-field.ensures)) c.in-Err.ensures.err in
    λ few. c.fields_are_judged_alone.ensures.refused any fields i field c.in-Err.part few (slice_get_within fields i field c.get-field.ensures) c.fields.invariant.1 here

pub returns-in-Err-clause-bad : goal.returns-in-Err-clause-bad
returns-in-Err-clause-bad c =
    let any = c.args.any_protocol in
    let fields = c.args.fields.now in
    let i = c.fields.place in
    let field = c.get-field.result in
    λ h is.
    let good : bad_part any (get_or fields i field) ≡ None = head_is_good any fields h is i field (slice_get_within fields i field c.get-field.ensures) in
    let here : bad_part any (get_or fields i field) ≡ Some c.in-Err.part = ap (bad_part any) (get_or_from_slice_get fields i field field c.get-field.ensures) ∙ c.in-Err.ensures.err in
    absurd (cc)

pub take_of-requires-clause-good : goal.take_of-requires-clause-good
take_of-requires-clause-good c =
    let field = c.get-field.result in
    let good = name_is_good c.args.any_protocol (kind_of field.name) field c.in-Ok.ensures.ok.1 in
    subst (λ k. is_name_at k field.name ≡ true) (sym c.in-Ok.ensures.ok.0) good

pub with-outline-requires : goal.with-outline-requires
with-outline-requires c is =
    let field = c.get-field.result in
    status_is_good c.args.any_protocol field c.in-Ok.ensures.ok.1 (sym c.in-Ok.ensures.ok.0 ∙ is)

pub fields-preserved : goal.fields-preserved
fields-preserved c =
    let any = c.args.any_protocol in
    let fields = c.args.fields.now in
    let i = c.fields.place in
    let field = c.get-field.result in
    let same = get_or_from_slice_get fields i field field c.get-field.ensures in
    let inside = slice_get_within fields i field c.get-field.ensures in
    let one : c.with-outline.result ≡ outlined c.fields.outline field = c.with-outline.ensures ∙ ap (λ k. outlined_by k c.fields.outline field) c.in-Ok.ensures.ok.0 in (
      seen_at fields i field _ _ c.get-field.ensures c.fields.invariant.0 c.take_of.ensures,
      All-more (λ f. bad_part any f ≡ None) fields i field inside c.fields.invariant.1 (subst (λ f. bad_part any f ≡ None) (sym same) c.in-Ok.ensures.ok.1),
      ap (λ o. fold outlined o (drop (i + 1) fields)) one
          ∙ next_outline fields i field c.fields.outline (fold outlined empty_outline fields) inside same c.fields.invariant.2,
    )

pub returns-clause-outline : goal.returns-clause-outline
returns-clause-outline c =
    let any = c.args.any_protocol in
    let fields = c.args.fields.now in
    let i = c.fields.place in
    λ few.
    let good = all_good any fields i (omega arith) few c.fields.invariant.1 in
    subst (IsOutlined (head_by any fields)) (sym (last_outline fields i c.fields.outline (fold outlined empty_outline fields) (omega arith) c.fields.invariant.2))
    (short_head any fields (c.lists_are_their_value.ensures.is_head any) few (c.fields_are_judged_alone.ensures.head any fields good))
