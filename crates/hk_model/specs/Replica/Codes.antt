-- The codes of contents and fragments, by which proofs tell such values apart.
use Rattle.std.specs.Prelude.{ℕ, List, refl}
use Rattle.std.specs.Coded.{Coded, code_by, coded×, coded_ℕ, coded_list}
use Rattle.std.specs.Ordering.{nat_cmp}
use Rattle.std.specs.FinMap as finmap
use Rattle.std.specs.FinSet as set
pub use Rattle.hk_log.specs.Versions.{row_code}
use Rattle.hk_types.specs.Values.{RowValue}
use Rattle.hk_types.specs.declared.version_key.VersionKey.{VersionKey}
use Rattle.hk_model.specs.History.Rows.{version_key_cmp}
use Rattle.hk_model.specs.Replica.Streams.{StreamContent}
use Rattle.hk_model.specs.Replica.Content.{Content}
use Rattle.hk_model.specs.Replica.Fragments.{FragmentValue}

abbrev pub version_key_code : Coded VersionKey
version_key_code = code_by (ℕ × (ℕ × ℕ)) (coded× coded_ℕ (coded× coded_ℕ coded_ℕ)) (λ v. (v.table, (v.key, v.born))) (λ p. record { table = p.0; key = p.1.0; born = p.1.1 }) (λ _. refl)

abbrev pub stream_code : Coded StreamContent
stream_code = code_by (set.FinSet nat_cmp × (ℕ × finmap.FinMap nat_cmp ℕ)) (coded× (set.code coded_ℕ) (coded× coded_ℕ (finmap.code coded_ℕ coded_ℕ))) (λ s. (s.taken, (s.closed, s.waiting))) (λ p. record { taken = p.0; closed = p.1.0; waiting = p.1.1 }) (λ _. refl)

abbrev pub content_code : Coded Content
content_code =
    code_by (ℕ × (ℕ × (finmap.FinMap version_key_cmp RowValue × (finmap.FinMap version_key_cmp ℕ × List StreamContent))))
    (coded× coded_ℕ (coded× coded_ℕ (coded× (finmap.code version_key_code row_code) (coded× (finmap.code version_key_code coded_ℕ) (coded_list stream_code)))))
    (λ c. (c.log, (c.horizon, (c.rows, (c.ends, c.streams))))) (λ p. record { log = p.0; horizon = p.1.0; rows = p.1.1.0; ends = p.1.1.1.0; streams = p.1.1.1.1 }) (λ _. refl)

abbrev pub fragment_code : Coded FragmentValue
fragment_code = code_by (ℕ × Content) (coded× coded_ℕ content_code) (λ f. (f.base, f.content)) (λ p. record { base = p.0; content = p.1 }) (λ _. refl)
