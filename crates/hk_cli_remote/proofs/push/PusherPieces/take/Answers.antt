use Rattle.std.proofs.Common.{[], refl}
use Rattle.hk_cli_remote.proofs.Results.{err_so}
use Rattle.hk_cli_remote.proofs.push.PusherPieces.take.Goals as goal

-- Of what it takes nothing is told, so a front that is empty will do.
pub returns-in_err-ask_all-clause-err : goal.returns-in_err-ask_all-clause-err
returns-in_err-ask_all-clause-err g c = err_so c.from_residual.result ([], c.args.piece.now, refl, λ _ _ _. tt)

pub returns-clause-err : goal.returns-clause-err
returns-clause-err g c = err_so c.checked.result ([], c.args.piece.now, refl, λ _ _ _. tt)
