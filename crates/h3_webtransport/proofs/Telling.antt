-- Which session an answer tells.
use Rattle.std.proofs.Common.{◌≡◌, ℕ, List, Option, None, refl, sym, ap, ◌∙◌}
use Rattle.h3_field.specs.Field.{Field}
use Rattle.h3_incoming.specs.BlockPulls.{told_with}
use Rattle.h3_connection.specs.Lists.{pull_of}
use Rattle.h3_connection.specs.declared.lists.ListPull.{ListPull}
use Rattle.h3_connection.specs.declared.lists.ListPull.TheVariants as answer
use Rattle.h3_incoming.specs.BlockPulls.{listed_as, plain_answer}
use Rattle.h3_incoming.specs.declared.answer.MessageKind.{MessageKind}
use Rattle.h3_incoming.specs.declared.answer.MessageKind.TheVariants as kind
use Rattle.h3_incoming.specs.declared.answer.Plain.{Plain}
use Rattle.h3_incoming.specs.declared.block.Told.{Told}
use Rattle.h3_incoming.specs.declared.block.Told.TheVariants as told
use Rattle.h3_webtransport.specs.Receiving.{session_of}

no_session : (k : MessageKind) (fields : List Field) → session_of (pull_of (answer.Item (listed_as k fields))) ≡ None
no_session kind.Interim fields = refl
no_session kind.Head fields = refl
no_session kind.Trailer fields = refl

-- a head or trailer tells none,
pub tells_none : (p : ListPull) (t : Told) (fields : List Field) (k : MessageKind) (status : Option ℕ) → p ≡ told_with t fields → t ≡ told.Message k status → None ≡ session_of (pull_of p)
tells_none p t fields k status is at = sym (ap (λ q. session_of (pull_of q)) (is ∙ ap (λ u. told_with u fields) at) ∙ no_session k fields)

-- and another answer what it says
pub tells_plain : (p : ListPull) (t : Told) (fields : List Field) (x : Plain) (session : Option ℕ) → p ≡ told_with t fields → t ≡ told.Plain x → session ≡ session_of (pull_of (plain_answer x))
    → session ≡ session_of (pull_of p)
tells_plain p t fields x session is at tells = tells ∙ sym (ap (λ q. session_of (pull_of q)) (is ∙ ap (λ u. told_with u fields) at))
