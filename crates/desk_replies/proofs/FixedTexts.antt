-- The responses that are the same each time, computed.
use Rattle.std.specs.Prelude.{◌≡◌, refl, codes}
use Rattle.std.specs.Fmt.{digits}
use Rattle.serde_json.proofs.OnLiterals.{serde_json_on_literals}
use Rattle.desk_replies.specs.Responses.{fixed_response}
use Rattle.desk_replies.specs.declared.fixed.Fixed.TheVariants.{BadOrigin, BadRequest, NoSuchPath, NoSuchPackage}
use Rattle.desk_replies.specs.declared.fixed.Fixed.TheVariants.{NoSuchReceipt, BadMethod, NoLength, TooLarge}
use Rattle.desk_replies.specs.declared.fixed.Fixed.TheVariants.{StoreFault, OutOfMemory, AskAgain}

pub bad_request_is : codes "HTTP/1.1 400 Bad Request\r\ncontent-type: application/json\r\ncontent-length: 23\r\nconnection: close\r\n\r\n{\"fault\":\"bad request\"}" ≡ fixed_response BadRequest
unfolding digits
bad_request_is = refl

pub bad_origin_is : codes "HTTP/1.1 403 Forbidden\r\ncontent-type: application/json\r\ncontent-length: 22\r\nconnection: close\r\n\r\n{\"fault\":\"bad origin\"}" ≡ fixed_response BadOrigin
unfolding digits
bad_origin_is = refl

pub no_such_path_is : codes "HTTP/1.1 404 Not Found\r\ncontent-type: application/json\r\ncontent-length: 24\r\nconnection: close\r\n\r\n{\"fault\":\"no such path\"}" ≡ fixed_response NoSuchPath
unfolding digits
no_such_path_is = refl

pub no_such_package_is : codes "HTTP/1.1 404 Not Found\r\ncontent-type: application/json\r\ncontent-length: 27\r\nconnection: close\r\n\r\n{\"fault\":\"no such package\"}" ≡ fixed_response NoSuchPackage
unfolding digits
no_such_package_is = refl

pub no_such_receipt_is : codes "HTTP/1.1 404 Not Found\r\ncontent-type: application/json\r\ncontent-length: 27\r\nconnection: close\r\n\r\n{\"fault\":\"no such receipt\"}" ≡ fixed_response NoSuchReceipt
unfolding digits
no_such_receipt_is = refl

pub bad_method_is : codes "HTTP/1.1 405 Method Not Allowed\r\ncontent-type: application/json\r\ncontent-length: 22\r\nconnection: close\r\n\r\n{\"fault\":\"bad method\"}" ≡ fixed_response BadMethod
unfolding digits
bad_method_is = refl

pub no_length_is : codes "HTTP/1.1 411 Length Required\r\ncontent-type: application/json\r\ncontent-length: 21\r\nconnection: close\r\n\r\n{\"fault\":\"no length\"}" ≡ fixed_response NoLength
unfolding digits
no_length_is = refl

pub too_large_is : codes "HTTP/1.1 413 Payload Too Large\r\ncontent-type: application/json\r\ncontent-length: 21\r\nconnection: close\r\n\r\n{\"fault\":\"too large\"}" ≡ fixed_response TooLarge
unfolding digits
too_large_is = refl

pub store_fault_is : codes "HTTP/1.1 500 Internal Server Error\r\ncontent-type: application/json\r\ncontent-length: 34\r\nconnection: close\r\n\r\n{\"name\":\"StoreFault\",\"refusal\":25}" ≡ fixed_response StoreFault
unfolding digits serde_json_on_literals
store_fault_is = refl

pub out_of_memory_is : codes "HTTP/1.1 507 Insufficient Storage\r\ncontent-type: application/json\r\ncontent-length: 35\r\nconnection: close\r\n\r\n{\"name\":\"OutOfMemory\",\"refusal\":24}" ≡ fixed_response OutOfMemory
unfolding digits serde_json_on_literals
out_of_memory_is = refl

pub ask_again_is : codes "HTTP/1.1 507 Insufficient Storage\r\ncontent-type: application/json\r\ncontent-length: 21\r\nconnection: close\r\n\r\n{\"fault\":\"ask again\"}" ≡ fixed_response AskAgain
unfolding digits
ask_again_is = refl
