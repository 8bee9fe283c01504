-- A chain as it is stored: one version, a list, or maps.
use Rattle.hk_facts.specs.declared.chain_form.ChainForm.{ChainForm}
use Rattle.hk_facts.specs.declared.chain_form.ChainForm.TheVariants.{One, Few, Many}
use Rattle.hk_facts.specs.Chains.{ChainValue}
use Rattle.hk_facts.specs.Listed.{first_only}

-- the chain that is stored so
abbrev pub stored : ChainForm → ChainValue
stored (One first) = first_only first
stored (Few few) = few
stored (Many many) = many.value
