-- A stream that is over is taken up as it is.
use Rattle.std.proofs.Common.{◌≡◌, true, false, Some, None, refl, sym, ◌∙◌, ap}
use Rattle.std.specs.Prelude.{Option, is_some}
use Rattle.h3_connection.specs.State.{kept_at}
use Rattle.h3_requests.specs.Listed.{either}
use Rattle.h3_requests.proofs.Found.{same_stored, under}
use Rattle.h3_requests.proofs.map.StreamMap.take_up.Goals as goal

there_first : {X : Type 0} (o p : Option X) → is_some o ≡ true → is_some (either o p) ≡ true
there_first (Some x) p h = refl
there_first None p h = absurd (cc)

none_first : {X : Type 0} (o : Option X) → is_some o ≡ false → None ≡ o
none_first None h = refl
none_first (Some x) h = absurd (cc)

pub returns-then-contains-clause-there : goal.returns-then-contains-clause-there
returns-then-contains-clause-there c =
    sym (ap is_some (under c.args.self.now c.into_inner-number.result c.args.id (kept_at c.args.self.now.under_way c.into_inner-number.result) c.into_inner-number.ensures.value c.into_inner-number.ensures.bound refl)
    ∙ there_first _ _ (sym c.contains.ensures ∙ c.if-contains.true))

pub returns-in_default-clause-there : goal.returns-in_default-clause-there
returns-in_default-clause-there c =
    sym (ap is_some (under c.args.self.now c.into_inner-number.result c.args.id None c.into_inner-number.ensures.value c.into_inner-number.ensures.bound (none_first _ (sym c.contains.ensures ∙ c.if-contains.false)))
    ∙ ap is_some (sym c.get.ensures.value) ∙ ap is_some c.in_default.is)

pub returns-in_default-insert-clause-same : goal.returns-in_default-insert-clause-same
returns-in_default-insert-clause-same c = same_stored c.args.self.now (record { under_way = c.insert.new.self; over = c.args.self.now.over }) c.in_default-insert.ensures.err refl

pub returns-clause-there : goal.returns-clause-there
returns-clause-there c =
    sym (ap is_some (under c.args.self.now c.into_inner-number.result c.args.id None c.into_inner-number.ensures.value c.into_inner-number.ensures.bound (none_first _ (sym c.contains.ensures ∙ c.if-contains.false)))
    ∙ ap is_some (sym c.in-Some.ensures.value))

pub insert-requires : goal.insert-requires
insert-requires c = sym (none_first _ (sym c.contains.ensures ∙ c.if-contains.false))
