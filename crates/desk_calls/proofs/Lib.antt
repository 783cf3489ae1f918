mod BodyFacts
mod CallFacts
mod HeadFacts
mod HostFacts
mod LengthFacts
pub mod OneCall
