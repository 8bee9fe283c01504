-- What contracts see of a replica.
use Rattle.std.specs.Prelude.{ℕ, refl, List, Result}
use Rattle.std.specs.Coded.{Coded, code_by, coded×, coded_ℕ, coded_list, coded_result}
use Rattle.hk_types.specs.declared.faults.FormFault.{FormFault}
use Rattle.hk_types.specs.contracts.faults.FormFault as fault
use Rattle.hk_state_host.specs.Values.{HostValue, host_code}

-- the value of a `Replica`: its host, what is cut off of its items or the fault that was met, and what it keeps to be
-- copied
pub record ReplicaValue : Type 0 where
  pub host : HostValue
  pub rest : Result (List ℕ) FormFault
  pub reply : List ℕ

abbrev pub replica_code : Coded ReplicaValue
replica_code =
    code_by (HostValue × (Result (List ℕ) FormFault × List ℕ)) (coded× host_code (coded× (coded_result (coded_list coded_ℕ) fault.the_row.coded) (coded_list coded_ℕ)))
    (λ r. (r.host, (r.rest, r.reply))) (λ p. record { host = p.0; rest = p.1.0; reply = p.1.1 }) (λ _. refl)
