use Rattle.std.proofs.Common.{◌≡◌, true, rules, append_assoc, ap, ◌∙◌, subst, sym}
use Rattle.h3_header.specs.Head.{head_fields}
use Rattle.h3_header.specs.HeadTests.{takes_protocol}
use Rattle.h3_header.specs.Reads.{head_of_fields}
use Rattle.h3_header.specs.ReadsBack.{ReadsBackBy, as_read}
use Rattle.h3_header.proofs.BackLemmas.{reads_back, reads_as, pseudo_taken}
use Rattle.h3_header.proofs.headers.Header.fields.Goals as goal

same : (c : goal.In_ok-append_regular) → c.append_regular.new.list.items ≡ head_fields c.args.self.now
same c = search (rules, append_assoc)

pub returns-clause-value : goal.returns-clause-value
returns-clause-value c = same c

pub returns-clause-reads_back : goal.returns-clause-reads_back
returns-clause-reads_back c = λ any taken.
    let valid = pseudo_taken any _ c.in_ok-append_to.ensures.valid (ap (λ h. takes_protocol any h.protocol) c.self.view_is ∙ taken) in
    subst (ReadsBackBy any) (ap head_fields c.self.view_is ∙ sym (same c))
    (reads_back any _ _ valid c.in_ok-append_regular.ensures.valid)

pub returns-clause-read_as : goal.returns-clause-read_as
returns-clause-read_as c =
    ap head_of_fields (same c ∙ ap head_fields (sym c.self.view_is))
    ∙ reads_as true _ _ c.in_ok-append_to.ensures.valid c.in_ok-append_regular.ensures.valid ∙ ap as_read c.self.view_is
