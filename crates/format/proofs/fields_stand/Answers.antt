use Rattle.format.proofs.Certain.{number_sure, below_sure, within_sure, text_sure}
use Rattle.format.proofs.fields_stand.Goals as goal

pub returns : goal.returns
returns c = record {
  numbers = number_sure;
  limited = below_sure;
  ranges = within_sure;
  maps = λ n w h. below_sure _ w h;
  texts = λ least. text_sure least _;
  names = text_sure 1 _;
}
