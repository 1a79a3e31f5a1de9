use Rattle.std.proofs.Common.{◌≡◌, ◌∷◌, map, rules, subst, sym}
use Rattle.std.proofs.lemmas.List.Elements.{All-cons}
use Rattle.std.specs.Prelude.{All}
use Rattle.std.specs.List.{AllByRecursion}
use Rattle.h3_field.specs.ReadBack.{AreBytes, IsFieldOfBytes}
use Rattle.h3_header.specs.Head.{to_field}
use Rattle.h3_header.specs.ReadsBack.{IsPair}
use Rattle.h3_header.proofs.headers.write.visit_regular.Goals as goal

pub loop-name-preserved : goal.loop-name-preserved
loop-name-preserved c =
    let step : c.loop-name.name-iterator ≡ (c.in-Some.name.now, c.in-Some.value.now) ∷ c.next.new.self = search rules in
    let name : c.as_bytes.result.now ≡ c.in-Some.name.now = search rules in
    let value : c.as_bytes-in-loop-name.result.now ≡ c.in-Some.value.now.bytes = search rules in (
      λ rest. c.loop-name.invariant.0 (subst (All IsPair) (sym step) (All-cons IsPair (c.in-Some.name.now, c.in-Some.value.now) c.next.new.self (c.as_bytes.ensures.valid, c.as_bytes-in-loop-name.ensures.valid) rest)),
      λ rest. c.loop-name.invariant.1 (subst (λ ps. AllByRecursion IsFieldOfBytes (map to_field ps)) (sym step)
          ((subst AreBytes name c.are_bytes.ensures, subst AreBytes value c.are_bytes-in-loop-name.ensures), rest)),
    )
