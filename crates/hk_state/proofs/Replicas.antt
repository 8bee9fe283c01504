-- What holds of every state.
use Rattle.std.proofs.Common.{sym, subst, [], replicate, arith}
use Rattle.std.proofs.lemmas.List.{length-replicate}
use Rattle.hk_types.specs.Values.{ConfigValue}
use Rattle.hk_model.specs.Replica.Lawful.{IsLawful}
use Rattle.hk_model.specs.Replica.Streams.{unknown}
use Rattle.hk_model.specs.Replica.Replicas.{empty_content}
use Rattle.hk_model.proofs.Replica.Lawful.{content_of_lawful}
use Rattle.hk_model.proofs.Laws.{nothing_content_of}
use Rattle.hk_store.specs.Facts.{no_facts}
use Rattle.hk_state.specs.Replica.{IsReplica}

pub nothing_lawful : (config : ConfigValue) → IsLawful (empty_content config)
nothing_lawful config = subst IsLawful (sym (nothing_content_of config)) (content_of_lawful config [] 0 (λ e i. elim i [ ]) (omega arith))

pub new_replica : (config : ConfigValue) → IsReplica config 0 no_facts (replicate config.streams unknown)
new_replica config = record { as_many = length-replicate config.streams unknown; lawful = nothing_lawful config }
