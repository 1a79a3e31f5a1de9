use Rattle.std.proofs.Common.{◌≡◌, ℕ, ◌-◌, ◌≤◌, List, length, drop, length-drop, ap, sym, refl, ◌∙◌, arith}
use Rattle.h3_unidirectional.proofs.waiting.WaitingBytes.behind_mut.Goals as goal

-- how many stand in front of what waits
taken_is : (taken : ℕ) (items now : List ℕ) → drop taken items ≡ now → taken ≤ length items → length items - length now ≡ taken
taken_is taken items now e h = omega (arith, h, ap length (sym e), length-drop taken items)

pub returns : goal.returns
returns c =
    let rest = rw c.self.view_is at c.let_go-self-inside.ensures.rest in
    let is = taken_is _ _ _ rest c.let_go-self-inside.ensures.within in
    ((refl, λ w. ap (λ k. drop k w.items) (sym is)), record { writes_back = tt; value = ap (λ k. drop k c.let_go-self-inside.new.bytes.items) is ∙ rest })
