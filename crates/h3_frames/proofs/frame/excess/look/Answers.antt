use Rattle.std.proofs.Common.{◌≡◌, ◌<◌, ◌≤◌, sym, subst, ◌∙◌, ap}
use Rattle.h3_frames.specs.Place.{left_at}
use Rattle.h3_frames.specs.ExcessiveLaws.{none_says, begun_says, stays_handed, stays_kept, stays_update, stays_unknown, waiting_says, whole_says, unknown_passed}
use Rattle.h3_frames.proofs.SettingsAhead.{none_ahead, begun_ahead, whole_ahead}
use Rattle.h3_frames.specs.Known.{known_by}
use Rattle.h3_frames.proofs.frame.excess.look.Goals as goal
use Rattle.h3_frames.proofs.frame.excess.look.Goals.{then-is_kept_whole-via-then-is_kept_whole, then-is_kept_whole-via-else-is_kept_whole+then-is_handed_out, then-is_kept_whole-via-else-is_kept_whole+else-is_handed_out+then-is_update}

pub returns-in_default-clause-some : goal.returns-in_default-clause-some
returns-in_default-clause-some c = none_says c.args.kinds _ c.in_default.ensures.reads

pub returns-in_default-get_var-clause-some : goal.returns-in_default-get_var-clause-some
returns-in_default-get_var-clause-some c = begun_says c.args.kinds c.in-Ok.kind _ _ c.in-Ok.ensures.reads c.in_default-get_var.ensures.reads

pub returns-in_default-clause-behind : goal.returns-in_default-clause-behind
returns-in_default-clause-behind c = none_ahead c.args.kinds _ c.in_default.ensures.reads

pub returns-in_default-get_var-clause-behind : goal.returns-in_default-get_var-clause-behind
returns-in_default-get_var-clause-behind c = begun_ahead c.args.kinds c.in-Ok.kind _ _ _ c.in-Ok.ensures.reads c.in_default-get_var.ensures.reads

pub returns-then-is_kept_whole-clause-some : goal.returns-then-is_kept_whole-clause-some
returns-then-is_kept_whole-clause-some c =
    let kind = c.in-Ok.kind in
    let number = c.in-Ok-get_var.number in
    let stays : known_by c.args.kinds (left_at c.args.cursor.now) ≡ left_at c.args.cursor.now = elim c.then-is_kept_whole.branch [
      | then-is_kept_whole-via-then-is_kept_whole w ↦ stays_kept c.args.kinds kind number _ _ _ (sym c.is_kept_whole.ensures ∙ w.if-is_kept_whole.true) c.in-Ok.ensures.reads c.in-Ok-get_var.ensures.reads
      | then-is_kept_whole-via-else-is_kept_whole+then-is_handed_out w ↦ stays_handed c.args.kinds kind number _ _ _ (sym w.is_handed_out.ensures ∙ w.if-is_handed_out.true) c.in-Ok.ensures.reads c.in-Ok-get_var.ensures.reads
      | then-is_kept_whole-via-else-is_kept_whole+else-is_handed_out+then-is_update w ↦ stays_update c.args.kinds kind number _ _ _ (sym w.is_update.ensures ∙ w.if-is_update.true) c.in-Ok.ensures.reads c.in-Ok-get_var.ensures.reads
    ] in
    whole_says c.args.kinds kind number _ _ _ stays c.in-Ok.ensures.reads c.in-Ok-get_var.ensures.reads

pub returns-then-is_kept_whole-clause-behind : goal.returns-then-is_kept_whole-clause-behind
returns-then-is_kept_whole-clause-behind c =
    let kind = c.in-Ok.kind in
    let number = c.in-Ok-get_var.number in
    let stays : known_by c.args.kinds (left_at c.args.cursor.now) ≡ left_at c.args.cursor.now = elim c.then-is_kept_whole.branch [
      | then-is_kept_whole-via-then-is_kept_whole w ↦ stays_kept c.args.kinds kind number _ _ _ (sym c.is_kept_whole.ensures ∙ w.if-is_kept_whole.true) c.in-Ok.ensures.reads c.in-Ok-get_var.ensures.reads
      | then-is_kept_whole-via-else-is_kept_whole+then-is_handed_out w ↦ stays_handed c.args.kinds kind number _ _ _ (sym w.is_handed_out.ensures ∙ w.if-is_handed_out.true) c.in-Ok.ensures.reads c.in-Ok-get_var.ensures.reads
      | then-is_kept_whole-via-else-is_kept_whole+else-is_handed_out+then-is_update w ↦ stays_update c.args.kinds kind number _ _ _ (sym w.is_update.ensures ∙ w.if-is_update.true) c.in-Ok.ensures.reads c.in-Ok-get_var.ensures.reads
    ] in
    whole_ahead c.args.kinds kind number _ _ _ stays c.in-Ok.ensures.reads c.in-Ok-get_var.ensures.reads

pub returns-then-remaining-size-clause-some : goal.returns-then-remaining-size-clause-some
returns-then-remaining-size-clause-some c =
    let short = subst (λ n. n < c.in-Ok-get_var.number) c.remaining.ensures c.if-remaining-size.true in
    waiting_says c.args.kinds c.in-Ok.kind c.in-Ok-get_var.number _ _ _ (sym c.is_kept_whole.ensures ∙ c.if-is_kept_whole.false) (sym c.is_handed_out.ensures ∙ c.if-is_handed_out.false) (sym c.is_update.ensures ∙ c.if-is_update.false)
    c.in-Ok.ensures.reads c.in-Ok-get_var.ensures.reads short

pub returns-then-remaining-size-clause-behind : goal.returns-then-remaining-size-clause-behind
returns-then-remaining-size-clause-behind c =
    let short = subst (λ n. n < c.in-Ok-get_var.number) c.remaining.ensures c.if-remaining-size.true in
    let stays = stays_unknown c.args.kinds c.in-Ok.kind c.in-Ok-get_var.number _ _ _ (sym c.is_kept_whole.ensures ∙ c.if-is_kept_whole.false) (sym c.is_handed_out.ensures ∙ c.if-is_handed_out.false) (sym c.is_update.ensures ∙ c.if-is_update.false)
    c.in-Ok.ensures.reads c.in-Ok-get_var.ensures.reads short in
    whole_ahead c.args.kinds c.in-Ok.kind c.in-Ok-get_var.number _ _ _ stays c.in-Ok.ensures.reads c.in-Ok-get_var.ensures.reads

pub returns-clause-same : goal.returns-clause-same
returns-clause-same c = λ none.
    let there = subst (λ n. c.in-Ok-get_var.number ≤ n) c.remaining.ensures c.if-remaining-size.false in
    ap (known_by c.args.kinds) c.advance.ensures.value
    ∙ sym (unknown_passed c.args.kinds c.in-Ok.kind c.in-Ok-get_var.number _ _ _ (sym c.is_kept_whole.ensures ∙ c.if-is_kept_whole.false) (sym c.is_handed_out.ensures ∙ c.if-is_handed_out.false) (sym c.is_update.ensures ∙ c.if-is_update.false)
    c.in-Ok.ensures.reads c.in-Ok-get_var.ensures.reads there)
