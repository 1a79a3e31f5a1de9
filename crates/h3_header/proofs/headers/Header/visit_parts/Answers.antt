use Rattle.std.proofs.Common.{◌≡◌, true, false, ap, sym, ◌∙◌, subst}
use Rattle.std.specs.List.{AllByRecursion}
use Rattle.std.proofs.lemmas.List.Elements.{All-append, All-from_recursion, recursion_from_All}
use Rattle.h3_field.specs.ReadBack.{IsFieldOfBytes}
use Rattle.h3_header.specs.Head.{head_fields}
use Rattle.h3_header.specs.HeadRead.{IsNone, Value, head_of}
use Rattle.h3_header.specs.HeadTests.{takes_protocol}
use Rattle.h3_header.proofs.AnyProtocolLaws.{untaken_refused}
use Rattle.h3_header.proofs.HeadTestLaws.{protocol_taken}
use Rattle.h3_header.specs.Reads.{head_of_fields}
use Rattle.h3_header.specs.ReadsBack.{ReadsBackBy, as_read}
use Rattle.h3_header.proofs.BackLemmas.{reads_back, reads_as, pseudo_taken}
use Rattle.h3_header.proofs.headers.Header.visit_parts.Goals as goal

pub returns-clause-reads_back : goal.returns-clause-reads_back
returns-clause-reads_back c = λ any taken.
    let valid = pseudo_taken any _ c.visit.ensures.valid (ap (λ h. takes_protocol any h.protocol) c.self.view_is ∙ taken) in
    subst (ReadsBackBy any) (ap head_fields c.self.view_is) (reads_back any _ _ valid c.visit_regular.ensures.valid)

pub returns-clause-token : goal.returns-clause-token
returns-clause-token c =
    sym (ap (λ h. takes_protocol true h.protocol) c.self.view_is) ∙ (protocol_taken true _).1 c.visit.ensures.valid.protocol

pub returns-clause-untaken : goal.returns-clause-untaken
returns-clause-untaken c =
    subst (λ h. takes_protocol false h.protocol ≡ false → head_of (head_fields h) ≡ IsNone Value) c.self.view_is (untaken_refused c.self.inside.pseudo c.self.inside.fields c.visit.ensures.valid)

pub returns-clause-read_as : goal.returns-clause-read_as
returns-clause-read_as c =
    ap (λ h. head_of_fields (head_fields h)) (sym c.self.view_is)
    ∙ reads_as true _ _ c.visit.ensures.valid c.visit_regular.ensures.valid ∙ ap as_read c.self.view_is

pub returns-clause-of_bytes : goal.returns-clause-of_bytes
returns-clause-of_bytes c =
    let pseudo = All-from_recursion IsFieldOfBytes _ c.visit.ensures.of_bytes in
    let regular = All-from_recursion IsFieldOfBytes _ c.visit_regular.ensures.of_bytes in
    subst (λ h. AllByRecursion IsFieldOfBytes (head_fields h)) c.self.view_is (recursion_from_All IsFieldOfBytes _ (All-append IsFieldOfBytes _ _ pseudo regular))
