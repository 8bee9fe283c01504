-- How long the encodings of pages and of what is told of streams are.
use Rattle.std.proofs.Common.{◌≡◌, ◌+◌, length, refl, arith}
use Rattle.std.specs.List.{flat_map}
use Rattle.std.proofs.lemmas.List.{length-append}
use Rattle.hk_codec.proofs.Lengths.{len16, len32, len64}
use Rattle.hk_answers.specs.Answers.{keyed_text}
use Rattle.hk_model.specs.declared.streams_told.StreamTold.{StreamTold}
use Rattle.hk_model.specs.Replica.Pages.{PageValue}
use Rattle.hk_model.specs.Replica.StreamsTold.{StreamsValue}
use Rattle.hk_answers.specs.Told.{page_text, told_text, hold_fields, streams_text}

pub page_text_len : (page : PageValue) → length (page_text page) ≡ 5 + length (flat_map keyed_text page.rows)
page_text_len page = simp (length-append, len32) (omega arith)

pub told_text_len : (s : StreamTold) → length (told_text s) ≡ 32
unfolding told_text
told_text_len s = simp (length-append, len64) refl

pub streams_text_len : (s : StreamsValue) → length (streams_text s) ≡ 36 + (length (hold_fields s.least_hold) + length (flat_map told_text s.streams))
unfolding streams_text
streams_text_len s = simp (length-append, len64, len16) (omega arith)
