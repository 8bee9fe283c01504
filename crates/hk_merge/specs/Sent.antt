-- What is sent, as a fragment.
use Rattle.std.specs.Prelude.{Bool, is_some}
use Rattle.std.specs.FinMap as finmap
use Rattle.hk_types.specs.declared.version_key.VersionKey.{VersionKey}
use Rattle.hk_model.specs.Replica.Content.{Content}
use Rattle.hk_model.specs.Replica.Fragments.{FragmentValue}
use Rattle.hk_merge.specs.declared.sent.Sent.{Sent}
use Rattle.hk_merge.specs.declared.sent.Sent.TheVariants.{Part, Whole}

-- the fragment that is sent: of a replica, the whole of what it holds
abbrev pub fragment_sent : Sent → FragmentValue
fragment_sent (Part fragment) = fragment.now
fragment_sent (Whole state) = record { base = 0; content = state.now }

-- the content that is sent
abbrev pub content_sent : Sent → Content
content_sent sent = (fragment_sent sent).content

-- whether a version's row is sent
abbrev pub sends_row : Sent → VersionKey → Bool
sends_row sent v = is_some (finmap.get (fragment_sent sent).content.rows v)
