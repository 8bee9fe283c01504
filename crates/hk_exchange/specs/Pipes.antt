-- What stands between a connection's socket and its session.
use Rattle.std.specs.Prelude.{◌≡◌, ℕ, ◌++◌, List, flat_map, take, drop, Option, refl}
use Rattle.std.specs.Coded.{Coded, code_by, coded×, coded_ℕ, coded_list}
use Rattle.std.specs.Global.{Vec}
use Rattle.std.specs.Io.KnownBytes.{Appends}

-- what passed a socket in these calls: of each buffer so many bytes from a place on
abbrev pub passed_in : List (Vec ℕ × (ℕ × ℕ)) → List ℕ
passed_in calls = flat_map (λ c. take c.1.1 (drop c.1.0 c.0.items)) calls

-- what a socket took so far, and what it has yet to take
pub record Outgoing : Type 0 where
  pub sent : List ℕ
  pub standing : List ℕ

abbrev pub outgoing_code : Coded Outgoing
outgoing_code =
    code_by (List ℕ × List ℕ) (coded× (coded_list coded_ℕ) (coded_list coded_ℕ)) (λ o. (o.sent, o.standing)) (λ p. record { sent = p.0; standing = p.1 }) (λ _. refl)

-- all that was put in, in its order
abbrev pub text_of : Outgoing → List ℕ
text_of o = o.sent ++ o.standing

-- a socket took this text behind what it took before, and so it holds where its bytes are known
abbrev pub Takes : Option (List ℕ) → Option (List ℕ) → List ℕ → List ℕ → List ℕ → Type 0
Takes known known_after before after text = (after ≡ before ++ text) × Appends known known_after text

-- the same with whatever text that begins this one
abbrev pub TakesFront : Option (List ℕ) → Option (List ℕ) → List ℕ → List ℕ → List ℕ → Type 0
TakesFront known known_after before after text =
    (front : List ℕ) × (rest : List ℕ) × (text ≡ front ++ rest) × Takes known known_after before after front

-- it took of a buffer so many bytes from a place on
abbrev pub TakesOf : {S : Type 0} → (S → Option (List ℕ)) → S → S → List ℕ → List ℕ → Vec ℕ → ℕ → ℕ → Type 0
TakesOf contents socket socket_after before after bytes from count = Takes (contents socket) (contents socket_after) before after (take count (drop from bytes.items))

-- a front of what stands
abbrev pub SendsStanding : {S : Type 0} → (S → Option (List ℕ)) → S → S → Outgoing → Outgoing → Type 0
SendsStanding contents socket socket_after old new = TakesFront (contents socket) (contents socket_after) old.sent new.sent old.standing

-- and of what is put in behind it
abbrev pub SendsFront : {S : Type 0} → (S → Option (List ℕ)) → S → S → Outgoing → Outgoing → List ℕ → Type 0
SendsFront contents socket socket_after old new more = TakesFront (contents socket) (contents socket_after) old.sent new.sent (old.standing ++ more)
