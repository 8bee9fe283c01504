use Rattle.std.proofs.Common.{◌≡◌, refl, ap, ◌∙◌, ℕ, suc, ◌+◌, ◌≤◌, List, ◌++◌, Result, Ok, append_assoc, arith, add-one}
use Rattle.std.proofs.lemmas.Bool.{le-ltb}
use Rattle.hk_types.specs.Numbers.{checked_stream}
use Rattle.hk_types.specs.declared.faults.FormFault.{FormFault}
use Rattle.hk_model.specs.Replica.Streams.{StreamContent}
use Rattle.hk_cli_calls.specs.declared.call.OutputForm.{OutputForm}
use Rattle.hk_cli_commands.specs.declared.status.StreamStatus.{StreamStatus}
use Rattle.hk_cli_commands.specs.Statuses.{status_of, line_in, lines_of}
use Rattle.hk_cli_commands.proofs.status.put_streams.Goals as goal

is_stream : (n s : ℕ) → 1 ≤ n → n ≤ 64 → Ok s ≡ checked_stream n → s ≡ n
is_stream n s least most e = same (e ∙ rw (le-ltb n 1 least, le-ltb 64 n most) refl)
  where
    same : ◌≡◌ {A = Result ℕ FormFault} (Ok s) (Ok n) → s ≡ n
    same h = cc

one_more : (form : OutputForm) (got : List StreamContent) (i s : ℕ) (old now new : List ℕ) (status : StreamStatus)
    → s ≡ i + 1 → now ≡ old ++ lines_of form got i → status ≡ status_of got s → new ≡ now ++ line_in form status → new ≡ old ++ lines_of form got (i + 1)
one_more form got i s old now new status e before is added =
    added
    ∙ ap (λ (st : StreamStatus). now ++ line_in form st) (is ∙ ap (status_of got) (e ∙ add-one i))
    ∙ ap (λ (xs : List ℕ). xs ++ line_in form (status_of got (suc i))) before
    ∙ append_assoc old (lines_of form got i) (line_in form (status_of got (suc i)))
    ∙ ap (λ (n : ℕ). old ++ lines_of form got n) (add-one-back i)
  where
    add-one-back : (n : ℕ) → suc n ≡ n + 1
    add-one-back n = omega arith

pub loop-index-preserved : goal.loop-index-preserved
loop-index-preserved c =
    one_more c.args.form c.args.got.now c.loop-index.index c.in_ok-stream.stream _ _ _ c.stream_status.result
    (is_stream (c.loop-index.index + 1) c.in_ok-stream.stream (omega arith) (omega arith) c.in_ok-stream.ensures)
    c.loop-index.invariant c.stream_status.ensures.whole c.in_ok-put_whole.ensures
