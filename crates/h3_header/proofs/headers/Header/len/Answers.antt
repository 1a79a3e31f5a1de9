use Rattle.std.proofs.Common.{ℕ, ◌+◌, min, length, ap, ap₂, sym, ◌∙◌}
use Rattle.h3_header.specs.Head.{Head, head_fields}
use Rattle.h3_header.proofs.CountLemmas.{length-head}
use Rattle.h3_header.proofs.headers.Header.len.Goals as goal

pub returns : goal.returns
returns c =
    c.saturating_add.ensures
    ∙ ap (λ (n : ℕ). min n 18446744073709551615)
    (ap₂ (λ (x y : ℕ). x + y) c.len.ensures c.len-2.ensures.value ∙ sym (length-head c.self.inside.pseudo c.self.inside.fields) ∙ ap (λ (h : Head). length (head_fields h)) c.self.view_is)
