-- `wav::read_wav` meets its contract. Assumes nothing.
use mathlib.Core.Path.{◌≡◌, sym, ◌∙◌, subst}
use borrow.Author.Rules.{rules}
use Rattle.std.specs.Prelude.{Result, Err}
use Rattle.rules_files.specs.Wav.{wav_left, read_wav}
use Rattle.rules_files.specs.WavFits.{TakeFits}
use Rattle.rules_files.specs.declared.wav.Take.{Take}
use Rattle.rules_files.specs.declared.wav.WavRefusal.{WavRefusal}
use Rattle.rules_files.specs.declared.wav.WavRefusal.TheVariants as why
use Rattle.wav.proofs.Answers.{file_other, file-ended, file_read, found-fits, wanted_found, wanted_ended}
use Rattle.wav.proofs.read_wav.Goals as goal

pub returns-then-not-is_wave : goal.returns-then-not-is_wave
returns-then-not-is_wave c = file_other _ _ (sym c.is_wave.ensures ∙ c.if-not-is_wave.true)

pub returns-in_err-found : goal.returns-in_err-found
returns-in_err-found c =
    let (ended, is) = wanted_ended c.find_data.result c.ok_or.result c.in_err-found.field-0.0 c.ok_or.ensures.value (search rules) in
    let r : c.from_residual.result ≡ Err why.NoData = search rules in
    subst (λ (a : Result Take WavRefusal). (wav_left a c.args.samples.now ≡ read_wav c.args.wav.now c.args.samples.now) × TakeFits a) (sym r)
    (file-ended _ _ (sym c.is_wave.ensures ∙ c.if-not-is_wave.false) _ c.find_data.ensures.0 ended)

pub read_data-requires : goal.read_data-requires
read_data-requires c =
    found-fits _ _ _ (wanted_found c.find_data.result c.ok_or.result _ c.ok_or.ensures.value (search rules)) c.find_data.ensures.1

pub returns : goal.returns
returns c = (
  file_read _ _ (sym c.is_wave.ensures ∙ c.if-not-is_wave.false) _ c.find_data.ensures.0 c.in_ok-found.found
      (wanted_found c.find_data.result c.ok_or.result _ c.ok_or.ensures.value (search rules)) _ _ c.read_data.ensures.0,
  c.read_data.ensures.1,
)
