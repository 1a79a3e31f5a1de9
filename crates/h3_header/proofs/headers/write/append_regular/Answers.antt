use Rattle.std.proofs.Common.{◌≡◌, ◌∷◌, rules, subst, sym, append_assoc}
use Rattle.std.proofs.lemmas.List.Elements.{All-cons}
use Rattle.std.specs.Prelude.{All}
use Rattle.h3_header.specs.ReadsBack.{IsPair}
use Rattle.h3_header.proofs.headers.write.append_regular.Goals as goal

pub loop-name-preserved : goal.loop-name-preserved
loop-name-preserved c =
    let step : c.loop-name.name-iterator ≡ (c.in-Some.name.now, c.in-Some.value.now) ∷ c.next.new.self = search rules in (
      search (rules, append_assoc),
      λ rest. c.loop-name.invariant.1 (subst (All IsPair) (sym step) (All-cons IsPair (c.in-Some.name.now, c.in-Some.value.now) c.next.new.self (c.as_bytes.ensures.valid, c.as_bytes-in-loop-name.ensures.valid) rest)),
    )
