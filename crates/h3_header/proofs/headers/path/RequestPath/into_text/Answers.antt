use Rattle.std.proofs.Common.{◌∷◌, ap, sym, ◌∙◌, subst}
use Rattle.http_uri.specs.Grammar.{IsPathInput, without_fragment}
use Rattle.h3_header.specs.RequestPath.{behind}
use Rattle.h3_header.proofs.PathLemmas.{input_behind, whole_behind, shown_behind, told_whole}
use Rattle.h3_header.proofs.headers.path.RequestPath.into_text.Goals as goal

pub path_of-requires : goal.path_of-requires
path_of-requires c =
    let room = c.self.invariant c.if-not-self.false in
    let joined = c.in-Ok.ensures ∙ ap (λ t. 47 ∷ t) (c.as_str.ensures.value ∙ shown_behind c.self.inside.text room) in
    subst IsPathInput (sym joined) (input_behind c.self.inside.text c.as_str.ensures.valid room)

pub returns-in-Ok-clause-ok : goal.returns-in-Ok-clause-ok
returns-in-Ok-clause-ok c =
    let room = c.self.invariant c.if-not-self.false in
    let joined = c.in-Ok.ensures ∙ ap (λ t. 47 ∷ t) (c.as_str.ensures.value ∙ shown_behind c.self.inside.text room) in
    told_whole c.path_of.result _ _ c.path_of.ensures.ok
    (ap without_fragment joined ∙ whole_behind c.self.inside.text c.as_str.ensures.valid room
    ∙ sym (ap (λ b. behind b c.self.inside.text) c.if-not-self.false) ∙ c.self.view_is)
