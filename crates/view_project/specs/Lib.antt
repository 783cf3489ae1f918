pub mod Layers
pub mod LinkStyles
pub mod NumberedStyles
pub mod Parts
pub mod Projects
