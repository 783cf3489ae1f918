use Rattle.request_csv.proofs.forms.meets.Goals as goal

pub returns-in-Hexadecimal : goal.returns-in-Hexadecimal
returns-in-Hexadecimal c = rw c.in-Hexadecimal.is c.has_bytes.ensures
