-- What is said of a result.
use Rattle.std.proofs.Common.{Result, Ok, Err, OnErr}

pub err_so : {A E P : Type 0} (r : Result A E) → P → OnErr r P
err_so (Ok x) p = tt
err_so (Err e) p = p
