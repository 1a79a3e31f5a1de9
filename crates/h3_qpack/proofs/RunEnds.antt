-- What a run answers, by the session that it is.
use Rattle.std.proofs.Common.{false, ◌≡◌, ◌⊎◌, inl, inr, ℕ, ◌-◌, ◌^◌, ◌<◌, ◌≤◌, List, length, take, sym, ◌∙◌, ap, subst, arith}
use Rattle.h3_field.specs.Field.{section_size}
use Rattle.h3_qpack.specs.DecoderState.{DecoderState, announcing}
use Rattle.h3_qpack.specs.Session.{Session}
use Rattle.h3_qpack.specs.Exchange.{ExchangeHistory, Exchange, start, opening}
use Rattle.h3_qpack.specs.RunAnswers.{HasAnswered}
use Rattle.h3_qpack.specs.declared.session.SessionEvent.{SessionEvent}
use Rattle.h3_qpack.specs.declared.session.SessionAnswer.{SessionAnswer}
use Rattle.h3_table.specs.TableLaws.{section_size-table}
use Rattle.h3_qpack.proofs.TableStates.{table-end}
use Rattle.h3_qpack.proofs.TablesRead.{decoder_at}
use Rattle.h3_qpack.proofs.EncoderStreams.{encoder_stream_is}
use Rattle.h3_qpack.proofs.Runs.{Stands, reads_as, run_as_expected}
use Rattle.h3_qpack.proofs.Expectations.{expected_sound}
use Rattle.h3_qpack.proofs.BytesRead.{bytes_read}

-- the decoder's table is within the capacity
decoder_within : (capacity : ℕ) (w : ExchangeHistory) (s : Session) → Stands capacity w s → section_size w.decoder.table.entries ≤ capacity
decoder_within capacity w s st = by_case (encoder_stream_is capacity s.instructions s.encoder.inserted w.encoder_stream w.decoder st.count (reads_as capacity w s st) st.encoder_stream)
  where
    by_case : ((st.count ≡ 0) × (w.decoder ≡ announcing capacity)) ⊎ (w.decoder ≡ decoder_at capacity capacity (take (st.count - length (opening capacity)) s.encoder.inserted)) → section_size w.decoder.table.entries ≤ capacity
    by_case (inl none) = omega (arith, ap (λ (r : DecoderState). section_size r.table.entries) none.1)
    by_case (inr is) =
        let read = take (st.count - length (opening capacity)) s.encoder.inserted in
        subst (λ n. n ≤ capacity) (ap (λ es. section_size es) (table-end capacity read) ∙ sym (ap (λ (r : DecoderState). section_size r.table.entries) is)) (section_size-table capacity read)

pub has_answered : (capacity limit : ℕ) (events : List SessionEvent) (answers : List SessionAnswer) (end : ExchangeHistory) → capacity < 2 ^ 30 → Exchange (start capacity limit) events answers end → HasAnswered capacity limit events answers
has_answered capacity limit events answers end small run =
    let x = run_as_expected capacity limit events answers end small run in
    let s = expected_sound false (2 ^ 30 - 1) capacity limit events answers x.session x.expected in
    record {
      end = end;
      session = x.session;
      exchange = run;
      expected = x.expected;
      sound = s.0;
      within_limit = s.1;
      read = λ n within came. bytes_read capacity end x.session n x.stands within came;
      encoder_table = omega (arith, section_size-table x.session.encoder.capacity x.session.encoder.inserted, x.stands.capacity_is);
      decoder_table = decoder_within capacity end x.session x.stands;
    }
